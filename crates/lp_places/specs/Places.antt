-- Names with the place at which each stands first.
use Rattle.std.specs.Prelude.{◌≡◌, ℕ, suc, List, [], ◌∷◌, ◌++◌, Option, Some, None, option_map, if◌then◌else◌}
use Rattle.std.specs.Str.{bytes_eq}
use Rattle.std.specs.Map.{lookup}
use Rattle.lp_places.specs.declared.places.Places.{Places}

abbrev pub first_place : List ℕ → List (List ℕ) → Option ℕ
first_place name [] = None
first_place name (n ∷ ns) = if bytes_eq name n then Some 0 else option_map (λ i. suc i) (first_place name ns)

-- what a table has at a name
unfoldable pub place_of : Places → List ℕ → Option ℕ
place_of p name = lookup (λ k. bytes_eq name k.items) p.places.entries

-- the table has each of these names, at its first place, and no other
abbrev pub HasPlaces : Places → List (List ℕ) → Type 0
HasPlaces p names = (name : List ℕ) → place_of p name ≡ first_place name names

abbrev pub place_list : Option ℕ → List ℕ
place_list None = []
place_list (Some i) = i ∷ []

-- the places of names, in order; a name without a place has none
abbrev pub places_in : (table names : List (List ℕ)) → List ℕ
places_in table [] = []
places_in table (n ∷ ns) = place_list (first_place n table) ++ places_in table ns
