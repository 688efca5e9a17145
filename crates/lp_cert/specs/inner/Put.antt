-- Closed values put for the indices of a term, one after the other.
use Rattle.std.specs.Prelude.{◌≡◌, List, [], ◌∷◌}
use Rattle.lp_calculus.specs.Term.{Term, substitute}
use Rattle.lp_term.specs.Spine.{LooseBelow}

-- the closed value is put for index 0
pub record IsPut (v t s : Term) : Type 0 where
  pub closed : LooseBelow 0 0 v
  pub is : s ≡ substitute v t

-- these closed values are put for index 0, one after the other
abbrev pub ArePut : List Term → Term → Term → Type 0
ArePut [] t s = s ≡ t
ArePut (v ∷ vs) t s = LooseBelow 0 0 v × ArePut vs (substitute v t) s
