use Rattle.std.proofs.Common.{◌≡◌, ◌+◌, ◌≤◌, length, map, drop, get_or}
use Rattle.std.specs.Prelude.{sum_by}
use Rattle.lp_module.specs.Copies.{constants_end}
use Rattle.lp_module.proofs.tree.end_of_constants.Given as goal

abbrev pub invariant-loop-at : goal.invariant-loop-at
invariant-loop-at l = (l.all + sum_by (λ m. get_or (map (λ x. length x.hidden_constants.items) l.modules) m 0) (drop l.at l.order.items) ≡ constants_end l.modules l.root l.order.items) × (l.all ≤ 1048576)
