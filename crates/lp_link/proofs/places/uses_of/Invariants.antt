use Rattle.std.proofs.Common.{◌≡◌, map, take}
use Rattle.lp_copies.specs.Trees.{lists_in}
use Rattle.lp_places.specs.Places.{places_in}
use Rattle.lp_link.specs.Uses.{names_of}
use Rattle.lp_link.proofs.places.uses_of.Given as goal

abbrev pub invariant-loop-at : goal.invariant-loop-at
invariant-loop-at l = lists_in l.uses.items ≡ map (λ o. places_in (names_of l.objects) (map (λ u. u.items) o.uses.items)) (take l.at l.objects)
