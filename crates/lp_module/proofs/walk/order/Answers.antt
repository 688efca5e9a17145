use Rattle.std.proofs.Common.{subst}
use Rattle.std.specs.Prelude.{All}
use Rattle.lp_module.specs.Order.{Leads, Ordered}
use Rattle.lp_module.specs.Searching.{ways_in, IsCircleFound}
use Rattle.lp_module.proofs.Ordering.{walk_ordered, walk_reached, walk_ends}
use Rattle.lp_module.proofs.walk.order.Goals as goal

pub returns-clause-ordered : goal.returns-clause-ordered
returns-clause-ordered c =
    let ways = ways_in c.in_ok-ways.ways.items in
    subst (λ w. Ordered w c.in_ok-order.order.items) c.in_ok-ways.ensures.ways
    (walk_ordered ways c.args.root c.in_ok-order.order.items (subst (IsCircleFound ways) c.in_default.is c.in_ok-circle.ensures) c.in_ok-order.ensures)

pub returns-clause-reached : goal.returns-clause-reached
returns-clause-reached c =
    let ways = ways_in c.in_ok-ways.ways.items in
    subst (λ w. All (Leads w c.args.root) c.in_ok-order.order.items) c.in_ok-ways.ensures.ways
    (walk_reached ways c.args.root c.in_ok-order.order.items (subst (IsCircleFound ways) c.in_default.is c.in_ok-circle.ensures) c.in_ok-order.ensures)

pub returns-clause-last : goal.returns-clause-last
returns-clause-last c = walk_ends (ways_in c.in_ok-ways.ways.items) c.args.root c.in_ok-order.order.items c.in_ok-order.ensures
