use Rattle.std.proofs.Common.{◌≡◌, ◌-◌}
use Rattle.lp_term.specs.Nodes.{Nodes}
use Rattle.lp_gen.specs.inner.Listing.{around_of}
use Rattle.lp_gen.specs.inner.Entering.{behind}
use Rattle.lp_gen.proofs.Entered.{from_place}
use Rattle.lp_gen.proofs.entering.enter_clause.Given as goal

abbrev pub invariant-loop-at : goal.invariant-loop-at
invariant-loop-at l = (b : Nodes) → around_of b l.environment ≡ behind (around_of b l.fn.environment) (from_place b l.first (l.count - l.at) l.vars)
