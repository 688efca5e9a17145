use Rattle.std.proofs.Common.{arith, refl}
use Rattle.lp_unify.proofs.Ways.{const_apart}
use Rattle.lp_unify.proofs.settle.is_apart.Goals as goal

pub returns-in_ok-is_apart-in-Const : goal.returns-in_ok-is_apart-in-Const
returns-in_ok-is_apart-in-Const c = λ e.
    const_apart c.args.store.now c.args.side.now.variable.0 c.args.head c.in-Const.field-0 c.in-Const.types (c.if-not-has.ensures.within refl) (λ p. absurd (omega (arith, c.if-head-side.false, p))) c.in-Const.ensures.cell (c.in_ok-is_apart-in-Const.ensures e)
