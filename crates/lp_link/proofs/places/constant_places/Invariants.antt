use Rattle.std.proofs.Common.{take}
use Rattle.lp_places.specs.Places.{HasPlaces}
use Rattle.lp_link.specs.Uses.{constant_names}
use Rattle.lp_link.proofs.places.constant_places.Given as goal

abbrev pub invariant-loop-at : goal.invariant-loop-at
invariant-loop-at l = HasPlaces l.places (constant_names (take l.at l.constants))
