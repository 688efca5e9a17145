-- The numbers of a copy's names while they are made, place by place.
use Rattle.std.specs.Prelude.{◌≡◌, ℕ, suc, ◌+◌, ◌<◌, List, length, drop, get_or, Option, Some, None}
use Rattle.lp_module.specs.Program.{place_in, hidden_or}

-- the place of a number, counted from 1, behind so many others; 0 where there is none
abbrev pub coded : (before : ℕ) → Option ℕ → ℕ
coded before None = 0
coded before (Some j) = suc (before + j)

-- the places of so many numbers in the end of a list
pub record ArePlaces (first many : ℕ) (list : List ℕ) (before : ℕ) (places : List ℕ) : Type 0 where
  pub count : length places ≡ many
  pub each : (i : ℕ) → i < many → get_or places i 0 ≡ coded before (place_in (drop before list) (first + i))

-- the numbers of the first names of a table
pub record AreNumbers (first : ℕ) (hidden : List ℕ) (from : ℕ) (exported : ℕ → ℕ) (at : ℕ) (numbers : List ℕ) : Type 0 where
  pub count : length numbers ≡ at
  pub each : (i : ℕ) → i < at → get_or numbers i 0 ≡ hidden_or from (place_in hidden (first + i)) (exported i)
