-- How the run of a command ends, by how its reading did.
use Rattle.std.proofs.Common.{◌≡◌, ◌≢◌, ℕ, List, Option, Some, None, refl, ◌∙◌, subst, true}
use Rattle.lp_base.specs.Counts.{Counts}
use Rattle.lp_base.specs.Held.{Held}
use Rattle.lp_base.specs.Written.{Appends, AppendsPrefix}
use Rattle.lp_base.specs.declared.status.Status.{Status}
use Rattle.lp_base.specs.declared.status.Status.TheVariants as variant
use Rattle.lp_lines.specs.Ends.{Caused, CausedLong, Grows, KeepsFiles, Ran}
use Rattle.lp_lines.specs.Lines.{is_of_search}
use Rattle.lp_lines.specs.Looked.{Looked}
use Rattle.lp_lines.specs.Refusals.{line_of, status_of}
use Rattle.lp_lines.specs.declared.refusal.Refusal.{Refusal}
use Rattle.lp_lines.proofs.Looking.{cause_stood, long_stood, look_caused, look_caused_long}
use Rattle.lp_lines.proofs.Refusing.{line_grows, told_command, told_fault}
use Rattle.lp_lines.proofs.Statuses.{not_limit, not_missing, not_read_fault, not_usage, told_count, told_long}

module _ {F K : Type 0} {rf ms ov wf : F → ℕ} {held : F → Option Held} {written : K → Option (List ℕ)} {o p : K} where
  -- a refusal was told
  pub ran_told : {a b : F} (r : Refusal) (result : Status) → Looked rf ms ov wf held a b (Some r) →
      (result ≢ variant.WriteFault → (result ≡ status_of r) × Appends (written o) (written p) (line_of r)) →
      (result ≡ variant.WriteFault → AppendsPrefix (written o) (written p) (line_of r)) → Ran rf ms ov written a b o p result
  ran_told {a} {b} r result h kept part = record {
    grows = line_grows result (status_of r) (line_of r) (written o) (written p) kept part;
    fault = told_fault r result (written o) (written p) h.kind kept;
    command = told_command r result h.kind (λ n. (kept n).0);
    read = told_count r result variant.ReadFault (rf a) (rf b) h.read (λ e. cc) (λ e. cc) (λ n. (kept n).0);
    missing = told_count r result variant.Missing (ms a) (ms b) h.missing (λ e. cc) (λ e. cc) (λ n. (kept n).0);
    long = told_long r result (ov a) (ov b) (written o) (written p) h.long kept;
  }

  -- what was done behind a reading that found nothing amiss, and behind which the folder was not read
  pub ran_behind : {a b c : F} (result : Status) → Looked rf ms ov wf held a b None → rf c ≡ rf b → ms c ≡ ms b → ov c ≡ ov b → Grows (written o) (written p) → (result ≢ variant.WriteFault → is_of_search result ≡ true) → Ran rf ms ov written a c o p result
  ran_behind {a} {b} {c} result h r m l g is = record {
    grows = g;
    fault = λ e. absurd (not_read_fault result is e);
    command = not_usage result is;
    read = look_caused variant.ReadFault (rf a) (rf b) (rf c) result h.read r (not_read_fault result is);
    missing = look_caused variant.Missing (ms a) (ms b) (ms c) result h.missing m (not_missing result is);
    long = look_caused_long (ov a) (ov b) (ov c) (written o) (written p) result h.long l (not_limit result is);
  }

  pub ran_searched : {a b : F} (result : Status) → Looked rf ms ov wf held a b None → Grows (written o) (written p) → (result ≢ variant.WriteFault → is_of_search result ≡ true) → Ran rf ms ov written a b o p result
  ran_searched result h g is = ran_behind result h refl refl refl g is

  -- a run behind such a reading
  pub ran_then : {a b c : F} (result : Status) → Looked rf ms ov wf held a b None → Ran rf ms ov written b c o p result → Ran rf ms ov written a c o p result
  ran_then {a} {b} {c} result h k = record {
    grows = k.grows;
    fault = k.fault;
    command = k.command;
    read = subst (λ n. Caused result variant.ReadFault n (rf c)) (cause_stood variant.ReadFault (rf a) (rf b) h.read) k.read;
    missing = subst (λ n. Caused result variant.Missing n (ms c)) (cause_stood variant.Missing (ms a) (ms b) h.missing) k.missing;
    long = subst (λ n. CausedLong result (written o) (written p) n (ov c)) (long_stood (ov a) (ov b) h.long) k.long;
  }

-- the same of files and of the output
module _ {F K : Type 0} {rf ms ov wf : F → ℕ} {held : F → Option Held} {faults : K → ℕ} {o p : K} where
  pub keeps_told : {a b : F} (r : Refusal) (result : Status) → Looked rf ms ov wf held a b (Some r) → Counts (result ≡ variant.WriteFault) (faults o) (faults p) → KeepsFiles wf held faults a b o p result
  keeps_told r result h c = record { output = c; unwritten = h.unwritten; same = h.same }

  pub keeps_behind : {a b : F} (result : Status) → Looked rf ms ov wf held a b None → Counts (result ≡ variant.WriteFault) (faults o) (faults p) → KeepsFiles wf held faults a b o p result
  keeps_behind result h c = record { output = c; unwritten = h.unwritten; same = h.same }

  pub keeps_then : {a b c : F} (result : Status) → Looked rf ms ov wf held a b None → KeepsFiles wf held faults b c o p result → KeepsFiles wf held faults a c o p result
  keeps_then result h k = record { output = k.output; unwritten = k.unwritten ∙ h.unwritten; same = k.same ∙ h.same }
