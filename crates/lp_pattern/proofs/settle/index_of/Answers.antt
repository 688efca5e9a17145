use Rattle.std.proofs.Common.{arith, sym, ◌∙◌}
use Rattle.lp_pattern.proofs.Sides.{side_below}
use Rattle.lp_pattern.proofs.settle.index_of.Goals as goal

pub overflow_add-index : goal.overflow_add-index
overflow_add-index c =
    let below = side_below c.args.side.now.eigens.items c.args.eigen c.in-Some-abstraction_of.out (sym c.abstraction_of.ensures ∙ c.in-Some-abstraction_of.is) in
    omega (arith, below, c.args.opened.few, c.args.side.now.eigens.small)
