use Rattle.std.proofs.Common.{arith, length, refl}
use Rattle.lp_unify.specs.Inside.{IsIn}
use Rattle.lp_unify.proofs.Apart.{all_take_next, all_taken}
use Rattle.lp_unify.proofs.binding.are_there.Goals as goal

pub loop-place-preserved : goal.loop-place-preserved
loop-place-preserved c = all_take_next (IsIn (length c.args.store.now.cells)) c.args.cells.now c.loop-place.place _ (omega (arith, c.loop-place-test.true)) c.loop-place.invariant (c.if-not-has.ensures.within refl)

pub returns : goal.returns
returns c = λ e. all_taken (IsIn (length c.args.store.now.cells)) c.args.cells.now c.loop-place.place (omega (arith, c.loop-place-test.false)) c.loop-place.invariant
