use Rattle.std.proofs.Common.{arith, refl}
use Rattle.lp_unify.specs.Inside.{IsApart}
use Rattle.lp_unify.proofs.Apart.{all_take_next, all_taken}
use Rattle.lp_unify.proofs.settle.are_same.Goals as goal

pub loop-place-preserved : goal.loop-place-preserved
loop-place-preserved c =
    all_take_next (IsApart c.args.store.now c.args.side.now.variable.0) c.args.cells.now c.loop-place.place _ (omega (arith, c.loop-place-test.true)) c.loop-place.invariant (c.if-not-refers_to.ensures refl)

pub returns : goal.returns
returns c = λ e. all_taken (IsApart c.args.store.now c.args.side.now.variable.0) c.args.cells.now c.loop-place.place (omega (arith, c.loop-place-test.false)) c.loop-place.invariant
