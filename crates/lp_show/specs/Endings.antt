-- The last line of a run, without its line feed.
use Rattle.std.specs.Prelude.{ℕ, List, codes}
use Rattle.lp_model.specs.declared.ending.Fault.{Fault}
use Rattle.lp_model.specs.declared.ending.Fault.TheVariants.{Overflow, ZeroDivisor, NotClosed}
use Rattle.lp_model.specs.declared.ending.Ending.{Ending}
use Rattle.lp_model.specs.declared.ending.Ending.TheVariants as ending

unfoldable pub fault_line : Fault → List ℕ
fault_line Overflow = codes "stopped: arithmetic: overflow"
fault_line ZeroDivisor = codes "stopped: arithmetic: zero divisor"
fault_line NotClosed = codes "stopped: arithmetic: not closed"

unfoldable pub ending_line : Ending → List ℕ
ending_line ending.NoMore = codes "no more answers"
ending_line ending.NoMoreCut = codes "no more answers; some were cut away"
ending_line ending.Enough = codes "stopped: answers"
ending_line ending.Steps = codes "stopped: steps"
ending_line ending.Flexible = codes "stopped: flexible goal"
ending_line (ending.Arithmetic fault) = fault_line fault
ending_line ending.OpenNot = codes "stopped: open negation"
ending_line ending.Deep = codes "stopped: term too deep"
