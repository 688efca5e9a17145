-- Names in the order of their first places.
use Rattle.std.specs.Prelude.{◌≡◌, ℕ, List, map, Option}
use Rattle.std.specs.Map.{lookup}
use Rattle.std.specs.Str.{bytes_eq}
use Rattle.lp_sig.specs.Pieces.{spelled}
use Rattle.lp_sig.specs.Places.{first_place}
use Rattle.lp_infer.specs.declared.firsts.Firsts.{Firsts}

-- the number of a name's first spot
unfoldable pub number_in : Firsts → List ℕ → Option ℕ
number_in f name = lookup (λ k. bytes_eq name k.items) f.numbers.entries

-- each name has the number of its first spot in the text
abbrev pub AreFirsts : List ℕ → Firsts → Type 0
AreFirsts text f = (name : List ℕ) → number_in f name ≡ first_place name (map (spelled text) f.places.items)
