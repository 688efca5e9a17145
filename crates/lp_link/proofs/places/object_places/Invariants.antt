use Rattle.std.proofs.Common.{take}
use Rattle.lp_places.specs.Places.{HasPlaces}
use Rattle.lp_link.specs.Uses.{names_of}
use Rattle.lp_link.proofs.places.object_places.Given as goal

abbrev pub invariant-loop-at : goal.invariant-loop-at
invariant-loop-at l = HasPlaces l.places (names_of (take l.at l.objects))
