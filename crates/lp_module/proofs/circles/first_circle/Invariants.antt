use Rattle.std.proofs.Common.{ℕ, ◌<◌}
use Rattle.lp_module.specs.Order.{out_of, LeadNowhereBack}
use Rattle.lp_module.specs.Searching.{ways_in}
use Rattle.lp_module.proofs.circles.first_circle.Given as goal

abbrev pub invariant-loop-home : goal.invariant-loop-home
invariant-loop-home l = (m : ℕ) → m < l.home → LeadNowhereBack (ways_in l.ways.items) m (out_of (ways_in l.ways.items) m)
