use Rattle.std.proofs.Common.{take}
use Rattle.std.specs.Prelude.{All}
use Rattle.lp_unify.specs.Inside.{IsApart}
use Rattle.lp_unify.proofs.settle.are_same.Given as goal

abbrev pub invariant-loop-place : goal.invariant-loop-place
invariant-loop-place l = All (IsApart l.store l.side.variable.0) (take l.place l.cells)
