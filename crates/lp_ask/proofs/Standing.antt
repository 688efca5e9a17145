-- What was shown of the output behind a call that wrote nothing holds of the output before it.
use Rattle.std.proofs.Common.{◌≡◌, ℕ, List, Option, subst}
use Rattle.lp_base.specs.Counts.{Counts}
use Rattle.lp_base.specs.Held.{Held}
use Rattle.lp_base.specs.Written.{Appends}
use Rattle.lp_base.specs.declared.status.Status.{Status}
use Rattle.lp_base.specs.declared.status.Status.TheVariants as variant
use Rattle.lp_lines.specs.Ends.{CausedLong, Grows, IsFault, KeepsFiles, Ran}
use Rattle.lp_ask.specs.Unwritten.{Unwritten}

module _ {F K : Type 0} {rf ms ov : F → ℕ} {faults : K → ℕ} {written : K → Option (List ℕ)} {o m p : K} where
  pub ran_from : {a b : F} (result : Status) → Unwritten faults written o m → Ran rf ms ov written a b m p result → Ran rf ms ov written a b o p result
  ran_from {a} {b} result u r = record {
    grows = subst (λ w. Grows w (written p)) u.same r.grows;
    fault = λ e. subst (λ w. (text : List ℕ) × (IsFault text × Appends w (written p) text)) u.same (r.fault e);
    command = r.command;
    read = r.read;
    missing = r.missing;
    long = subst (λ w. CausedLong result w (written p) (ov a) (ov b)) u.same r.long;
  }

module _ {F K : Type 0} {wf : F → ℕ} {held : F → Option Held} {faults : K → ℕ} {written : K → Option (List ℕ)} {o m p : K} where
  pub keeps_from : {a b : F} (result : Status) → Unwritten faults written o m → KeepsFiles wf held faults a b m p result → KeepsFiles wf held faults a b o p result
  keeps_from {a} {b} result u k = record { output = subst (λ n. Counts (result ≡ variant.WriteFault) n (faults p)) u.sound k.output; unwritten = k.unwritten; same = k.same }
