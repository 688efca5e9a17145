use Rattle.std.proofs.Common.{refl}
use Rattle.lp_unify.proofs.Ways.{app_apart}
use Rattle.lp_unify.proofs.settle.is_applied.Goals as goal

pub returns : goal.returns
returns c = λ e.
    app_apart c.args.store.now c.args.side.now.variable.0 c.args.old c.in-App.top c.in-App.list c.items.result.now (c.if-not-has.ensures.within refl) (c.if-not-is_unbound.ensures.unbound refl) c.in-App.ensures.cell (c.if-not-refers_to.ensures refl)
    c.items.ensures.items (c.are_same.ensures e)
