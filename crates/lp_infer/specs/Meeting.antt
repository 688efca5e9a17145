-- Type variables in the order in which they are met, and their numbers.
use Rattle.std.specs.Prelude.{◌≡◌, ℕ, suc, List, [], ◌∷◌, nat_eq, if◌then◌else◌, true, get_or}
use Rattle.std.specs.List.{list_any}
use Rattle.indexmap.specs.IndexSet.{insert_key}
use Rattle.lp_calculus.specs.Types.{Ty, var}

-- the place of the first x, the length where there is none
abbrev pub place : List ℕ → ℕ → ℕ
place [] x = 0
place (y ∷ ys) x = if nat_eq x y then 0 else suc (place ys x)

-- those that were met before, and then each of these that was not met
abbrev pub met : List ℕ → List ℕ → List ℕ
met N [] = N
met N (x ∷ xs) = met (insert_key nat_eq N x) xs

abbrev pub AllMet : List ℕ → List ℕ → Type 0
AllMet N [] = Unit {0}
AllMet N (x ∷ xs) = (list_any (nat_eq x) N ≡ true) × AllMet N xs

-- each type variable has its place as its number
abbrev pub renaming : List ℕ → ℕ → Ty
renaming N x = var (place N x)

-- and the way back
abbrev pub unnaming : List ℕ → ℕ → Ty
unnaming N i = var (get_or N i 0)
