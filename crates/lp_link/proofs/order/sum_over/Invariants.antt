use Rattle.std.proofs.Common.{◌≡◌, ◌+◌, ◌≤◌, drop, get_or}
use Rattle.std.specs.Prelude.{sum_by}
use Rattle.lp_link.specs.Ends.{total}
use Rattle.lp_link.proofs.order.sum_over.Given as goal

abbrev pub invariant-loop-at : goal.invariant-loop-at
invariant-loop-at l = (l.all + sum_by (λ m. get_or l.counts m 0) (drop l.at l.order) ≡ total l.base l.counts l.order) × (l.all ≤ l.most)
