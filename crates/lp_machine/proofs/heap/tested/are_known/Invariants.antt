use Rattle.std.specs.Prelude.{All}
use Rattle.lp_goal.specs.Kinds.{IsCell}
use Rattle.lp_machine.proofs.heap.tested.are_known.Given as goal

abbrev pub invariant-loop-cell : goal.invariant-loop-cell
invariant-loop-cell l = All (IsCell l.store) l.yielded
