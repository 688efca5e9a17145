-- What has a spelling: numbers that fit their bytes, and parts that are whole.
use Rattle.std.specs.Prelude.{◌≡◌, ℕ, ◌<◌, ◌^◌, ℤ, List, [], ◌∷◌, ◌++◌}
use Rattle.std.specs.Int.{w64, cast_signed, cast_unsigned}

abbrev pub IsInteger : ℤ → Type 0
IsInteger z = (cast_signed w64 (cast_unsigned w64 z) ≡ z) × (cast_unsigned w64 z < 2 ^ 64)

-- each part is of the sort that comes next, and no part is missing; below has the sorts of the parts that a part asks for
abbrev pub AreWhole : {S A : Type 0} → (A → List S) → (S → A → Type 0) → List S → List A → Type 0
AreWhole below IsOf [] [] = Unit {0}
AreWhole below IsOf [] (x ∷ xs) = ⊥
AreWhole below IsOf (sort ∷ to_come) [] = ⊥
AreWhole below IsOf (sort ∷ to_come) (x ∷ xs) = IsOf sort x × AreWhole below IsOf (below x ++ to_come) xs
