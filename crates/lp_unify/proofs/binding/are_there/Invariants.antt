use Rattle.std.proofs.Common.{length, take}
use Rattle.std.specs.Prelude.{All}
use Rattle.lp_unify.specs.Inside.{IsIn}
use Rattle.lp_unify.proofs.binding.are_there.Given as goal

abbrev pub invariant-loop-place : goal.invariant-loop-place
invariant-loop-place l = All (IsIn (length l.store.cells)) (take l.place l.cells)
