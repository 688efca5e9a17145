-- What a table tells of the numbers of a copy's names.
use Rattle.std.specs.Prelude.{◌≡◌, ℕ, suc, ◌≤◌, Bool, true, false, List, [], ◌∷◌, Option, Some}
use Rattle.lp_code.specs.Symbolic.{Tables}
use Rattle.lp_link.specs.Linked.{Copy}
use Rattle.lp_link.specs.Names.{moved_schemes}
use Rattle.lp_link.specs.inner.Tabled.{arities_of}

-- the table has at each number what stands beside it, and no number is below the first one
abbrev pub AreTold : {A : Type 0} → (first : ℕ) → (ℕ → Option A) → List ℕ → List A → Type 0
AreTold f T [] [] = Unit {0}
AreTold f T [] (v ∷ vs) = ⊥
AreTold f T (n ∷ ns) [] = ⊥
AreTold f T (n ∷ ns) (v ∷ vs) = ((f ≤ n) × (T n ≡ Some v)) × AreTold f T ns vs

-- it has these from a number on
abbrev pub AreAt : {A : Type 0} → (ℕ → Option A) → (n : ℕ) → List A → Type 0
AreAt T n [] = Unit {0}
AreAt T n (v ∷ vs) = (T n ≡ Some v) × AreAt T (suc n) vs

-- the copy above has each exported name, with what stands beside it
abbrev pub AreAbove : {A : Type 0} → (first : ℕ) → (ℕ → Option A) → (told : List ℕ → Option ℕ) → List (List ℕ × Bool) → List A → Type 0
AreAbove f T told [] vs = Unit {0}
AreAbove f T told (e ∷ es) [] = Unit {0}
AreAbove f T told ((name, false) ∷ es) (v ∷ vs) = AreAbove f T told es vs
AreAbove f T told ((name, true) ∷ es) (v ∷ vs) = ((n : ℕ) × (told name ≡ Some n) × (f ≤ n) × (T n ≡ Some v)) × AreAbove f T told es vs

-- the tables tell of a copy's names what its object tells of them
pub record IsTold (u : Tables) (c : Copy) : Type 0 where
  pub kinds : AreTold 8 u.kinds c.kinds (arities_of c.object)
  pub constants : AreTold 32 u.constants c.constants (moved_schemes c)
