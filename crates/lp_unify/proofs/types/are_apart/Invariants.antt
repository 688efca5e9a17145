use Rattle.std.proofs.Common.{take}
use Rattle.std.specs.Prelude.{All}
use Rattle.lp_unify.specs.Inside.{AvoidsIn}
use Rattle.lp_unify.proofs.types.are_apart.Given as goal

abbrev pub invariant-loop-place : goal.invariant-loop-place
invariant-loop-place l = All (AvoidsIn l.store l.variable.0) (take l.place l.cells)
