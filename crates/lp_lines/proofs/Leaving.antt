-- What a command that writes a file leaves, by how its run ends.
use Rattle.std.proofs.Common.{◌≡◌, ◌≢◌, ℕ, ◌≤◌, List, Option, Some, None, refl, sym, ◌∙◌, subst, string_bytes}
use Rattle.std.specs.Prelude.{IfSome, Ok, Err, IsErrOf}
use Rattle.lp_base.specs.Counts.{Counts, HasRisen}
use Rattle.lp_base.specs.Held.{Held, Puts, Spares}
use Rattle.lp_base.specs.Written.{Appends, AppendsPrefix}
use Rattle.lp_base.specs.declared.outside.WriteErr.{WriteErr}
use Rattle.lp_base.specs.declared.outside.WriteErr.TheVariants as write
use Rattle.lp_base.specs.declared.status.Status.{Status}
use Rattle.lp_base.specs.declared.status.Status.TheVariants as variant
use Rattle.lp_lines.specs.Left.{IsTarget, Left, stands, fails, untouched, LeavesWith}
use Rattle.lp_lines.specs.Looked.{Looked}
use Rattle.lp_lines.specs.Refusals.{line_of, status_of}
use Rattle.lp_lines.specs.declared.refusal.Refusal.{Refusal}
use Rattle.lp_lines.specs.declared.store.Target.{Target}
use Rattle.lp_lines.proofs.Looking.{stood}
use Rattle.lp_lines.proofs.Refusing.{never_done}

module _ {F K : Type 0} {wf : F → ℕ} {held : F → Option Held} {faults : K → ℕ} {written : K → Option (List ℕ)} {a b : F} {o p : K} where
  -- nothing was written, and a line was put that is not that of the command
  pub leaves_untouched : {file line : List ℕ} {last : Status} (result said : Status) → (result ≢ variant.WriteFault → result ≡ said) → said ≢
      variant.Done → Counts (result ≡ variant.WriteFault) (faults o) (faults p) → wf b ≡ wf a → held b ≡ held a → LeavesWith wf held faults written a
      b o p file line last result
  leaves_untouched result said kept other c w h = record {
    left = untouched (record {
      is_refused = λ e. let n : result ≢ variant.WriteFault = λ f. cc in other (sym (kept n) ∙ e);
      unfailed = w;
      same = h;
      risen = c.risen;
    });
    never_falls = c.never_falls;
    rises_only_then = c.rises_only_then;
  }

  module _ (file line : List ℕ) (target : Target) (t : IsTarget file line target) where
    -- the file was written, and its line was put
    pub leaves_file : (last result : Status) (bytes : List ℕ) {T : Type 0} (u : T) → IfSome (held a) (λ x. IfSome (held b) (Puts (string_bytes target.file) bytes x)) → Counts (IsErrOf {E = WriteErr} (Ok u) write.Failed) (wf a) (wf b)
        → (result ≢ variant.WriteFault → (result ≡ last) × Appends (written o) (written p) target.done.items) → (result ≡ variant.WriteFault → AppendsPrefix (written o) (written p) target.done.items) → Counts (result ≡ variant.WriteFault) (faults o) (faults p)
        → LeavesWith wf held faults written a b o p file line last result
    leaves_file last result bytes u puts c kept part k = record {
      left = stands (record {
        bytes = bytes;
        puts = subst (λ f. IfSome (held a) (λ x. IfSome (held b) (Puts f bytes x))) t.file_is puts;
        unfailed = stood (wf a) (wf b) c.never_falls (λ l. let e = c.rises_only_then l in cc);
        said = λ n. ((kept n).0, subst (Appends (written o) (written p)) t.done_is (kept n).1);
        begun = λ e. (subst (AppendsPrefix (written o) (written p)) t.done_is (part e), k.risen e);
      });
      never_falls = k.never_falls;
      rises_only_then = k.rises_only_then;
    }

    -- the folder failed
    pub leaves_fault : {last : Status} (result : Status) {T : Type 0} → IfSome (held a) (λ x. IfSome (held b) (Spares (string_bytes target.file) x)) → Counts (IsErrOf {T = T} (Err write.Failed) write.Failed) (wf a) (wf b)
        → result ≡ variant.WriteFault → AppendsPrefix (written o) (written p) target.fault.items → faults o ≤ faults p
        → LeavesWith wf held faults written a b o p file line last result
    leaves_fault result spares c is part up = record {
      left = fails (record {
        is_fault = is;
        risen = c.risen refl;
        spares = subst (λ f. IfSome (held a) (λ x. IfSome (held b) (Spares f x))) t.file_is spares;
        begun = subst (AppendsPrefix (written o) (written p)) t.fault_is part;
      });
      never_falls = up;
      rises_only_then = λ l. is;
    }

  -- a refusal was told
  pub leaves_told : {file line : List ℕ} {last : Status} {rf ms ov : F → ℕ} (r : Refusal) (result : Status) → Looked rf ms ov wf held a b (Some r) →
      (result ≢ variant.WriteFault → (result ≡ status_of r) × Appends (written o) (written p) (line_of r)) → Counts (result ≡ variant.WriteFault)
      (faults o) (faults p) → LeavesWith wf held faults written a b o p file line last result
  leaves_told r result h kept c = leaves_untouched result (status_of r) (λ n. (kept n).0) (never_done r h.kind) c h.unwritten h.same

-- the same behind a reading that found nothing amiss
module _ {F K : Type 0} {rf ms ov wf : F → ℕ} {held : F → Option Held} {faults : K → ℕ} {written : K → Option (List ℕ)} {a b c : F} {o p : K} {file line : List ℕ} {last result : Status} where
  leaves_so : Looked rf ms ov wf held a b None → Left wf held faults written b c o p file line last result → Left wf held faults written a c o p file line last result
  leaves_so h (stands s) = stands (record {
    bytes = s.bytes;
    puts = subst (λ x. IfSome x (λ y. IfSome (held c) (Puts file s.bytes y))) h.same s.puts;
    unfailed = s.unfailed ∙ h.unwritten;
    said = s.said;
    begun = s.begun;
  })
  leaves_so h (fails s) = fails (record {
    is_fault = s.is_fault;
    risen = subst (λ n. HasRisen n (wf c)) h.unwritten s.risen;
    spares = subst (λ x. IfSome x (λ y. IfSome (held c) (Spares file y))) h.same s.spares;
    begun = s.begun;
  })
  leaves_so h (untouched s) = untouched (record { is_refused = s.is_refused; unfailed = s.unfailed ∙ h.unwritten; same = s.same ∙ h.same; risen = s.risen })

  pub leaves_then : Looked rf ms ov wf held a b None → LeavesWith wf held faults written b c o p file line last result → LeavesWith wf held faults written a c o p file line last result
  leaves_then h k = record { left = leaves_so h k.left; never_falls = k.never_falls; rises_only_then = k.rises_only_then }
