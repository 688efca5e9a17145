use Rattle.std.proofs.Common.{map, take}
use Rattle.lp_sig.specs.Places.{HasPlaces}
use Rattle.lp_sig.proofs.places.places_of.Given as goal

abbrev pub invariant-loop-i : goal.invariant-loop-i
invariant-loop-i g l = HasPlaces l.places (map g.E.Named.name_of (take l.i l.entries))
