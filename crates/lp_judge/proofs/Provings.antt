-- How a run that proves answers ends.
use Rattle.std.proofs.Common.{◌≡◌, ◌≢◌, ℕ, List, Option, refl, sym, ap, ◌∙◌, subst, true, false, inl, inr}
use Rattle.std.specs.Prelude.{string_bytes, Result, Ok, Err, IfErr, IfSome, Vec}
use Rattle.std.specs.Global.{Global}
use Rattle.lp_base.specs.Held.{Held, Puts}
use Rattle.lp_base.specs.declared.status.Status.{Status}
use Rattle.lp_base.specs.declared.status.Status.TheVariants as variant
use Rattle.lp_model.specs.declared.ending.Ending.TheVariants as ending
use Rattle.lp_lines.specs.Left.{IsTarget, Left, LeavesWith, fails, stands, untouched}
use Rattle.lp_base.specs.Written.{Appends}
use Rattle.lp_lines.specs.Lines.{ending_status}
use Rattle.lp_lines.specs.Placed.{IfSource}
use Rattle.lp_lines.specs.Refusals.{IsRefusal, IsSourceRefusal, status_of}
use Rattle.lp_lines.specs.declared.refusal.Refusal.{Refusal}
use Rattle.lp_lines.specs.declared.refusal.Refusal.TheVariants.{Line, Memory}
use Rattle.lp_judge.specs.Proofs.{IsCounted, WritesCounted, IsCertified, WritesProofs, has_file}
use Rattle.lp_judge.specs.Proved.{IsOutcome, IsReady, cert_file}
use Rattle.lp_judge.specs.declared.proving.Outcome.{Outcome}
use Rattle.lp_judge.specs.declared.proving.Outcome.TheVariants.{File}
use Rattle.lp_judge.specs.declared.proving.Ready.{Ready}

-- what is refused as no source has any place
pub nowhere_placed : {T : Type 0} (P : List ℕ → Type 0) (r : Result T Refusal) → IfErr r (IfSource (λ line. ⊥)) → IfErr r (IfSource P)
nowhere_placed P (Ok x) h = tt
nowhere_placed P (Err (Line said line)) h = λ e. absurd (h e)
nowhere_placed P (Err Memory) h = tt

pub deep_not_done : ending_status ending.Deep ≢ variant.Done
unfolding ending_status
deep_not_done = λ e. cc

pub ready_file : (name : List ℕ) (x : Outcome) (r : Ready) → x ≡ File r → IsOutcome name x → IsReady name r.ending r.target
ready_file name x r e h = subst (IsOutcome name) e h

pub with_status : {F K : Type 0} (wf : F → ℕ) (held : F → Option Held) (faults : K → ℕ) (written : K → Option (List ℕ)) (a b : F) (o p : K) (file line : List ℕ) (done other result : Status)
    → done ≡ other → LeavesWith wf held faults written a b o p file line done result → LeavesWith wf held faults written a b o p file line other result
with_status wf held faults written a b o p file line done other result e h = subst (λ s. LeavesWith wf held faults written a b o p file line s result) e h

-- a run that writes a file is not refused
file_not : (s t : Status) → has_file t ≡ false → has_file s ≡ true → s ≢ t
file_not s t f h e = let a : true ≡ false = sym h ∙ ap has_file e ∙ f in absurd (cc)

pub file_no_fault : (s : Status) → has_file s ≡ true → s ≢ variant.WriteFault
unfolding has_file
file_no_fault s h = file_not s variant.WriteFault refl h

pub file_no_memory : (s : Status) → has_file s ≡ true → s ≢ variant.Memory
unfolding has_file
file_no_memory s h = file_not s variant.Memory refl h

file_not_deep : (s : Status) → has_file s ≡ true → s ≢ ending_status ending.Deep
unfolding has_file ending_status
file_not_deep s h = file_not s variant.Deep refl h

source_no_file : (said : Status) (line : Vec ℕ Global) → IsSourceRefusal (Line said line) → has_file said ≡ false
unfolding has_file
source_no_file said line h = elim h [ inl a ↦ ap has_file a | inr x ↦ elim x [ inl a ↦ ap has_file a | inr y ↦ elim y [ inl a ↦ ap has_file a | inr z ↦ ap has_file z.0 ] ] ]

refused_no_file : (r : Refusal) → IsRefusal r → has_file (status_of r) ≡ false
unfolding has_file
refused_no_file (Line said line) h = elim h [ inl a ↦ ap has_file a | inr x ↦ source_no_file said line x ]
refused_no_file Memory h = refl

pub told_no_file : {X : Type 0} (r : Refusal) (result : Status) → IsRefusal r → (result ≢ variant.WriteFault → (result ≡ status_of r) × X) → has_file result ≡ true → ⊥
told_no_file r result h kept f = file_not result (status_of r) (refused_no_file r h) f (kept (file_no_fault result f)).0

pub deep_no_file : {X : Type 0} (said result : Status) → said ≡ ending_status ending.Deep → (result ≢ variant.WriteFault → (result ≡ said) × X) → has_file result ≡ true → ⊥
deep_no_file said result e kept f = file_not_deep result f ((kept (file_no_fault result f)).0 ∙ e)

pub proofs_stand : (told now : Option Held) (name text : List ℕ) (x : Outcome) (r : Ready) (file bytes : List ℕ) → x ≡ File r → IsCertified told name text x → file ≡ cert_file name → bytes ≡ r.bytes.items
    → IfSome told (λ old. IfSome now (Puts file bytes old)) → WritesProofs told now name text
proofs_stand told now name text x r file bytes e h f b p = record {
  bytes = r.bytes.items;
  proofs = subst (IsCertified told name text) e h;
  stands = subst (λ w. IfSome told (λ old. IfSome now (Puts w r.bytes.items old))) f (subst (λ w. IfSome told (λ old. IfSome now (Puts file w old))) b p);
}

pub done_has_file : {s : Status} → s ≡ variant.Done → has_file s ≡ true
unfolding has_file
done_has_file e = ap has_file e

module _ {F K : Type 0} {wf : F → ℕ} {held : F → Option Held} {faults : K → ℕ} {written : K → Option (List ℕ)} {a b : F} {o p : K} where
  line_left : {file line : List ℕ} {last result : Status} → Left wf held faults written a b o p file line last result → result ≡ variant.Done → Appends (written o) (written p) line
  line_left (stands s) e = (s.said (λ f. cc)).1
  line_left (fails f) e = let w = f.is_fault in absurd (cc)
  line_left (untouched u) e = absurd (u.is_refused e)

  pub counted_stands : (told now : Option Held) (name text : List ℕ) (x : Outcome) (r : Ready) (bytes : List ℕ) (last result : Status) → x ≡ File r → IsCounted told name text x → bytes ≡ r.bytes.items
      → ((file line : List ℕ) → IsTarget file line r.target → LeavesWith wf held faults written a b o p file line last result)
      → IfSome told (λ old. IfSome now (Puts (string_bytes r.target.file) bytes old)) → result ≡ variant.Done → WritesCounted told now name text (written o) (written p)
  counted_stands told now name text x r bytes last result e h same leaves put done =
      let c = subst (IsCounted told name text) e h in
      record {
        bytes = r.bytes.items;
        count = c.count;
        answers = c.answers;
        last = r.ending;
        proofs = c.proofs;
        stands = subst (λ w. IfSome told (λ old. IfSome now (Puts w r.bytes.items old))) c.is.file_is (subst (λ w. IfSome told (λ old. IfSome now (Puts (string_bytes r.target.file) w old))) same put);
        said = line_left (leaves _ _ c.is).left done;
      }
