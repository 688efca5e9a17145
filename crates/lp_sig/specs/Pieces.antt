-- The words of a text.
use Rattle.std.specs.Prelude.{ℕ, List, [], ◌∷◌, Bool, false, slice_range, nat_le, ◌&&◌, ◌||◌, nat_eq}
use Rattle.lp_base.specs.declared.place.Spot.{Spot}

-- the bytes of a spot, as far as there are any
abbrev pub spelled : List ℕ → Spot → List ℕ
spelled text s = slice_range text s.from s.to

-- a word is a variable where it begins with an upper-case letter or `_`
abbrev pub begins_variable : List ℕ → Bool
begins_variable [] = false
begins_variable (b ∷ bs) = nat_eq b 95 || (nat_le 65 b && nat_le b 90)
