use Rattle.std.proofs.Common.{◌≡◌, ℕ, List, ◌++◌, map, drop}
use Rattle.lp_places.specs.Places.{HasPlaces, places_in}
use Rattle.lp_places.proofs.places.Places.all.Given as goal

abbrev pub invariant-loop-at : goal.invariant-loop-at
invariant-loop-at l = (table : List (List ℕ)) → HasPlaces l.self table → l.places.items ++ places_in table (map (λ u. u.items) (drop l.at l.names)) ≡ places_in table (map (λ u. u.items) l.names)
