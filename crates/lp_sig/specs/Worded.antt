-- The constants so far, by their names alone.
use Rattle.std.specs.Prelude.{◌≡◌, ℕ, List, map, Bool, true, false, ◌||◌}
use Rattle.lp_sig.specs.Places.{HasPlaces}
use Rattle.lp_sig.specs.Standard.{standard_constants}
use Rattle.lp_sig.specs.Said.{is_among, names_in}
use Rattle.lp_sig.specs.Modules.{first_names}
use Rattle.lp_sig.specs.declared.constants.Constants.{Constants}
use Rattle.lp_sig.specs.declared.constants.Known.{Known}
use Rattle.lp_sig.specs.declared.constants.Known.TheVariants.{New, Untyped, Typed}

abbrev pub names_so_far : Constants → List (List ℕ)
names_so_far c = map (λ k. k.name.items) c.constants.items

-- they are those of these words
pub record HasWords (c : Constants) (words : List (List ℕ)) : Type 0 where
  pub are : names_so_far c ≡ first_names (names_in standard_constants) words
  pub places : HasPlaces c.places (names_so_far c)

-- a name is standard, or among these
abbrev pub is_met_word : List ℕ → List (List ℕ) → Bool
is_met_word w words = is_among w (names_in standard_constants) || is_among w words

abbrev pub is_met : Known → Bool
is_met New = false
is_met Untyped = true
is_met (Typed t) = true
