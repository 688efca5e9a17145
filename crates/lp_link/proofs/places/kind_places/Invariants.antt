use Rattle.std.proofs.Common.{take}
use Rattle.lp_places.specs.Places.{HasPlaces}
use Rattle.lp_link.specs.Uses.{kind_names}
use Rattle.lp_link.proofs.places.kind_places.Given as goal

abbrev pub invariant-loop-at : goal.invariant-loop-at
invariant-loop-at l = HasPlaces l.places (kind_names (take l.at l.kinds))
