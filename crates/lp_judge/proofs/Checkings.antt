-- The status with which certificates are judged, and refusals that are none of sources.
use Rattle.std.proofs.Common.{◌≡◌, ◌≢◌, ℕ, List, length, map, Option, refl, sym, subst, ap, ◌∙◌, inl, inr, true}
use Rattle.std.specs.Global.{Global}
use Rattle.std.specs.Prelude.{Vec, All, Result, Ok, Err, IfOk, IfErr}
use Rattle.std.proofs.lemmas.List.{length-map}
use Rattle.std.proofs.lemmas.List.Elements.{All-map}
use Rattle.lp_base.specs.Held.{Held}
use Rattle.lp_base.specs.declared.limit.Limit.{Limit}
use Rattle.lp_base.specs.declared.status.Status.{Status}
use Rattle.lp_base.specs.declared.status.Status.TheVariants as variant
use Rattle.lp_base.specs.Written.{Appends}
use Rattle.lp_term.specs.Nodes.{Extends}
use Rattle.lp_model.specs.declared.certificate.Certificate as code
use Rattle.lp_module.specs.declared.copies.Assembled.{Assembled}
use Rattle.lp_model.specs.declared.program.Typed.{Typed}
use Rattle.lp_cert.specs.Arities.{counts_in}
use Rattle.lp_cert.specs.Certified.{Certifies, certificate_of, ground_of, query_of}
use Rattle.lp_cert.specs.Spellable.{AreCertificates}
use Rattle.lp_cert.specs.Spelling.{spelled_certificates}
use Rattle.lp_cert.specs.Standing.{AreNumbersInside, IsCertificateInside, IsSameProgram}
use Rattle.lp_build.specs.Told.{IsTold}
use Rattle.lp_cert.specs.declared.judging.CheckVerdict.{CheckVerdict}
use Rattle.lp_cert.specs.declared.judging.CheckVerdict.TheVariants.{Accepted, Rejected, Deep}
use Rattle.lp_lines.specs.Lines.{is_of_search}
use Rattle.lp_lines.specs.Looked.{Found}
use Rattle.lp_lines.specs.Placed.{IfSource}
use Rattle.lp_lines.specs.Refusals.{IsRefusal, IsSourceRefusal, line_of, status_of}
use Rattle.lp_lines.specs.declared.refusal.Refusal.{Refusal}
use Rattle.lp_lines.specs.declared.refusal.Refusal.TheVariants.{Line, Memory}
use Rattle.lp_lines.proofs.Refusing.{never_done}
use Rattle.lp_lines.proofs.Statuses.{not_otherwise, said_of_search}
use Rattle.lp_judge.specs.Asked.{IsAskedFrom}
use Rattle.lp_judge.specs.Checked.{Checks, IsCheckOf, IsChecked, IsJudgedOn, IsVerdictOn, WritesCheck, checked_status}
use Rattle.lp_judge.specs.Proved.{cert_file}
use Rattle.lp_judge.specs.declared.checking.Checked.{Checked}
use Rattle.lp_judge.proofs.Closed.{asked_stands}
use Rattle.lp_judge.proofs.Insides.{certificates_stay}
use Rattle.lp_judge.proofs.Questions.{asked_later, query_inside}
use Rattle.lp_judge.proofs.Telling.{never_no}

checked_is_of_search : (v : CheckVerdict) → is_of_search (checked_status v) ≡ true
unfolding is_of_search
checked_is_of_search Accepted = refl
checked_is_of_search (Rejected i) = refl
checked_is_of_search (Deep i) = refl

checked_no_fault : (v : CheckVerdict) → checked_status v ≢ variant.WriteFault
checked_no_fault Accepted = λ e. cc
checked_no_fault (Rejected i) = λ e. cc
checked_no_fault (Deep i) = λ e. cc

pub told_no_fault : (n : ℕ) (v : CheckVerdict) (line : List ℕ) (said : Status) → IsChecked n v line said → said ≢ variant.WriteFault
told_no_fault n v line said h e = checked_no_fault v (sym h.ends ∙ e)

pub told_of_search : (n : ℕ) (v : CheckVerdict) (line : List ℕ) (said result : Status) → IsChecked n v line said →
    (result ≢ variant.WriteFault → result ≡ said) → result ≢ variant.WriteFault → is_of_search result ≡ true
told_of_search n v line said result h kept = said_of_search result said (ap is_of_search h.ends ∙ checked_is_of_search v) kept

-- no file that is not read is refused as a source
pub found_nowhere : (file : List ℕ) (most : ℕ) (l : Limit) (told : Option Held) (r : Result (Vec ℕ Global) Refusal) → Found file most l told r → IfErr r (IfSource (λ line. ⊥))
found_nowhere file most l told (Ok bytes) h = tt
found_nowhere file most l told (Err (Line said line)) h = λ e. elim h [ inl a ↦ let b = a.0 in cc | inr x ↦ elim x [ inl a ↦ let b = a.0 in cc | inr a ↦ let b = a.0 in cc ] ]
found_nowhere file most l told (Err Memory) h = tt

source_no_fault : (result : Status) → result ≡ variant.Source → result ≢ variant.WriteFault
source_no_fault result e f = cc

pub told_nowhere : {X : Type 0} (r : Refusal) (result : Status) → IfSource (λ line. ⊥) r → (result ≢ variant.WriteFault → (result ≡ status_of r) × X) → result ≢ variant.Source
told_nowhere (Line said line) result h kept e = h (sym (kept (source_no_fault result e)).0 ∙ e)
told_nowhere Memory result h kept e = let k = (kept (source_no_fault result e)).0 in cc

-- no refusal has the status of a verdict
source_not_deep : (said : Status) (line : Vec ℕ Global) → IsSourceRefusal (Line said line) → said ≢ variant.Deep
source_not_deep said line h e = elim h [ inl a ↦ cc | inr x ↦ elim x [ inl a ↦ cc | inr y ↦ elim y [ inl a ↦ cc | inr z ↦ let b = z.0 in cc ] ] ]

never_deep : (r : Refusal) → IsRefusal r → status_of r ≢ variant.Deep
never_deep (Line said line) h = λ e. elim h [ inl a ↦ cc | inr x ↦ source_not_deep said line x e ]
never_deep Memory h = λ e. cc

module _ (told : Option Held) (name text : List ℕ) (a b : Option (List ℕ)) (result : Status) where
  pub checks_refused : (r : Refusal) → IsRefusal r → (result ≢ variant.WriteFault → (result ≡ status_of r) × Appends a b (line_of r)) → Checks told name text a b result
  checks_refused r h kept = record {
    accepted = λ e. absurd (other variant.Done (λ f. cc) (never_done r h) e);
    rejected = λ e. absurd (other variant.No (λ f. cc) (never_no r h) e);
    deep = λ e. absurd (other variant.Deep (λ f. cc) (never_deep r h) e);
  }
    where
      other : (wanted : Status) → wanted ≢ variant.WriteFault → status_of r ≢ wanted → result ≡ wanted → ⊥
      other wanted n m e = not_otherwise result (status_of r) wanted (λ f. (kept f).0) n m e

  -- a verdict that was told
  pub checks_told : (line : List ℕ) (said : Status) → IsCheckOf told name text line said → (result ≢ variant.WriteFault → (result ≡ said) × Appends a b line) → Checks told name text a b result
  checks_told line said h kept = record { accepted = λ e. written (λ f. cc); rejected = λ e. written (λ f. cc); deep = λ e. written (λ f. cc) }
    where
      written : result ≢ variant.WriteFault → WritesCheck told name text a b result
      written n = (line, subst (IsCheckOf told name text line) (sym (kept n).0) h, (kept n).1)

-- the bytes that stand under a name
pub found_there : (file : List ℕ) (most : ℕ) (l : Limit) (told : Option Held) (r : Result (Vec ℕ Global) Refusal) → Found file most l told r → IfOk r (λ bytes. IsTold told file bytes.items)
found_there file most l told (Ok bytes) h = h.1
found_there file most l told (Err e) h = tt

pub check_of : (told : Option Held) (name text file bytes line : List ℕ) (said : Status) → file ≡ cert_file name → IsTold told file bytes
    → ((count : ℕ) × (verdict : CheckVerdict) × IsJudgedOn told name text bytes count verdict × IsChecked count verdict line said) → IsCheckOf told name text line said
check_of told name text file bytes line said e there h = record {
  bytes = bytes;
  there = subst (λ f. IsTold told f bytes) e there;
  count = h.0;
  verdict = h.1;
  judged = h.2;
  checked = h.3;
}

-- the arities are those of the names, which stay
counts_stay : (old new : Assembled) → IsSameProgram old new → counts_in old ≡ counts_in new
counts_stay old new s = let a = s.kinds in let b = s.constants in cc

-- what was judged of bytes that were read in one bank, in a later one
pub judged_on : (told : Option Held) (name text bytes : List ℕ) (before between after : Assembled) (q : Typed) (cs : List code.Certificate) (count : ℕ) (verdict : CheckVerdict)
    → IsAskedFrom told name text before q → Extends before.program.bank between.program.bank → Extends between.program.bank after.program.bank
    → IsSameProgram before between → IsSameProgram between after → All (IsCertificateInside between.program.bank) cs
    → AreCertificates (counts_in before) (map (certificate_of between.program.bank) cs) → bytes ≡ spelled_certificates (map (certificate_of between.program.bank) cs) → count ≡ length cs
    → (AreNumbersInside between.program q cs → IsVerdictOn (ground_of after.program)
    (query_of after.program.bank q) (map (certificate_of after.program.bank) cs) verdict)
    → IsJudgedOn told name text bytes count verdict
judged_on told name text bytes before between after q cs count verdict asked e f s t inside known spelled counted right =
    let later = asked_later told name text before between q e s asked in
    let same = certificates_stay between.program.bank after.program.bank f cs inside in
    record {
      names = after;
      query = q;
      asked = asked_later told name text between after q f t later;
      certificates = map (certificate_of after.program.bank) cs;
      known = subst (λ z. AreCertificates z (map (certificate_of after.program.bank) cs)) (counts_stay before between s ∙ counts_stay between after t)
          (subst (AreCertificates (counts_in before)) (sym same) known);
      spelled = subst (λ z. bytes ≡ spelled_certificates z) (sym same) spelled;
      counted = counted ∙ sym (length-map cs (certificate_of after.program.bank));
      right =
          let stands = asked_stands told name text between q later in
          right (record { constants = stands.0; clauses = stands.1; query = query_inside _ _ text between.program.bank q later.asked; certificates = inside });
    }

-- the same of certificates that were accepted
pub accepted_on : (told : Option Held) (name text bytes : List ℕ) (before between after : Assembled) (q : Typed) (cs : List code.Certificate) (count : ℕ)
    → IsAskedFrom told name text before q → Extends before.program.bank between.program.bank → Extends between.program.bank after.program.bank
    → IsSameProgram before between → IsSameProgram between after → All (IsCertificateInside between.program.bank) cs
    → AreCertificates (counts_in before) (map (certificate_of between.program.bank) cs) → bytes ≡ spelled_certificates (map (certificate_of between.program.bank) cs)
    → count ≡ length cs → All (λ c. Certifies (ground_of after.program) (query_of after.program.bank q) (certificate_of after.program.bank c)) cs
    → IsJudgedOn told name text bytes count Accepted
accepted_on told name text bytes before between after q cs count asked e f s t inside known spelled counted h =
    judged_on told name text bytes before between after q cs count Accepted asked e f s t inside known spelled counted
    (λ _. All-map (Certifies (ground_of after.program) (query_of after.program.bank q)) (certificate_of after.program.bank) cs h)

-- the same of what a call gave
pub checks_of : (told : Option Held) (name text file slice bytes : List ℕ) (r : Result Checked Refusal) → file ≡ cert_file name → slice ≡ bytes → IsTold told file bytes
    → IfOk r (λ x. (count : ℕ) × (verdict : CheckVerdict) × IsJudgedOn told name text slice count verdict × IsChecked count verdict x.line.items x.status)
    → IfOk r (λ x. IsCheckOf told name text x.line.items x.status)
checks_of told name text file slice bytes (Ok x) e s there h = check_of told name text file slice x.line.items x.status e (subst (IsTold told file) (sym s) there) h
checks_of told name text file slice bytes (Err r) e s there h = tt
