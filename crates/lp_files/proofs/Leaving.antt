-- What a command that writes a file leaves, for the command and the name that the words say.
use Rattle.std.proofs.Common.{◌≡◌, ℕ, List, ◌++◌, Option, subst}
use Rattle.lp_base.specs.Held.{Held}
use Rattle.lp_base.specs.declared.status.Status.{Status}
use Rattle.lp_files.specs.Target.{done_line, ending_of}
use Rattle.lp_lines.specs.Left.{Leaves}
use Rattle.lp_words.specs.declared.asked.FileCommand.{FileCommand}

module _ {F K : Type 0} {wf : F → ℕ} {held : F → Option Held} {faults : K → ℕ} {written : K → Option (List ℕ)} {a b : F} {o p : K} where
  pub leaves_for : {c d : FileCommand} {m n : List ℕ} {result : Status} → c ≡ d → m ≡ n → Leaves wf held faults written a b o p (m ++ ending_of c) (done_line c (m ++ ending_of c)) result → Leaves wf held faults written a b o p (n ++ ending_of d) (done_line d (n ++ ending_of d)) result
  leaves_for {c} {d} {m} {n} {result} e f h =
      subst (λ x. Leaves wf held faults written a b o p (n ++ ending_of x) (done_line x (n ++ ending_of x)) result) e
      (subst (λ x. Leaves wf held faults written a b o p (x ++ ending_of c) (done_line c (x ++ ending_of c)) result) f h)
