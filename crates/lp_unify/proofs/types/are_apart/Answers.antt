use Rattle.std.proofs.Common.{arith, refl, subst}
use Rattle.std.specs.Prelude.{All}
use Rattle.lp_unify.specs.Inside.{AvoidsIn}
use Rattle.lp_unify.proofs.Apart.{all_take_next, all_taken}
use Rattle.lp_unify.proofs.types.are_apart.Goals as goal

pub loop-place-preserved : goal.loop-place-preserved
loop-place-preserved c =
    all_take_next (AvoidsIn c.args.store.now c.args.variable.0) c.items-cells.result.now c.loop-place.place _ (omega (arith, c.loop-place-test.true)) c.loop-place.invariant (c.in_ok-found.ensures.avoids c.if-found.false (c.if-not-is_unbound.ensures.unbound refl))

pub returns : goal.returns
returns c = λ e.
    subst (All (AvoidsIn c.args.store.now c.args.variable.0)) c.items-cells.ensures.items
    (all_taken (AvoidsIn c.args.store.now c.args.variable.0) c.items-cells.result.now c.loop-place.place (omega (arith, c.loop-place-test.false)) c.loop-place.invariant)
