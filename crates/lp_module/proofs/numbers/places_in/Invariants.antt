use Rattle.std.proofs.Common.{◌-◌}
use Rattle.lp_module.specs.inner.Tables.{ArePlaces}
use Rattle.lp_module.proofs.numbers.places_in.Given as goal

abbrev pub invariant-loop-at : goal.invariant-loop-at
invariant-loop-at l = ArePlaces l.first l.count l.list (l.end - l.at) l.places.items
