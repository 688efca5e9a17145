use Rattle.std.proofs.Common.{◌≡◌}
use Rattle.lp_module.specs.Searching.{ways_in}
use Rattle.lp_module.specs.Visiting.{IsWalk, whole_load}
use Rattle.lp_module.proofs.visits.visit.Given as goal

abbrev pub invariant-walk : goal.invariant-walk
invariant-walk l = IsWalk (ways_in l.ways.items) l.walk × (l.walk.root ≡ l.root)

abbrev pub decreases-walk : goal.decreases-walk
decreases-walk l = whole_load (ways_in l.ways.items) l.walk
