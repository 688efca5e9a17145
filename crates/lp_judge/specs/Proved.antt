-- What the proving of a query says and leaves.
use Rattle.std.specs.Prelude.{ℕ, List, ◌++◌, codes, Option}
use Rattle.std.specs.Fmt.{decimal}
use Rattle.lp_base.specs.Held.{Held}
use Rattle.lp_base.specs.declared.status.Status.{Status}
use Rattle.lp_model.specs.declared.ending.Ending.{Ending}
use Rattle.lp_lines.specs.Left.{IsTarget, LeavesWith}
use Rattle.lp_lines.specs.Lines.{ending_line, ending_status}
use Rattle.lp_lines.specs.declared.store.Target.{Target}
use Rattle.lp_judge.specs.declared.proving.Outcome.{Outcome}
use Rattle.lp_judge.specs.declared.proving.Outcome.TheVariants.{File, Deep}

-- the file of a module's certificates
abbrev pub cert_file : (name : List ℕ) → List ℕ
cert_file name = name ++ codes ".cert"

-- how many answers were proved, of how many, and the last line of the search
abbrev pub proved_line : (proved answers : ℕ) → Ending → List ℕ
proved_line p a e = codes "proved " ++ decimal p ++ codes " of " ++ decimal a ++ codes "\n" ++ ending_line e

abbrev pub IsReady : (name : List ℕ) → Ending → Target → Type 0
IsReady name e target = (p : ℕ) × (a : ℕ) × IsTarget (cert_file name) (proved_line p a e) target

abbrev pub IsOutcome : (name : List ℕ) → Outcome → Type 0
IsOutcome name (File r) = IsReady name r.ending r.target
IsOutcome name Deep = Unit {0}

-- how a run ends: the file stands with these lines and the status of the search; or it was not to be written, and nothing was touched
abbrev pub Proves : {F K : Type 0} (write_faults : F → ℕ) (held : F → Option Held) (faults : K → ℕ) (written : K → Option (List ℕ)) (old new : F) (before after : K) (name : List ℕ) (result : Status) → Type 0
Proves write_faults held faults written old new before after name result =
    (p : ℕ) × (a : ℕ) × (e : Ending) × LeavesWith write_faults held faults written old new before after (cert_file name) (proved_line p a e) (ending_status e) result
