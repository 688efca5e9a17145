-- The type variables of types are below a number.
use Rattle.std.specs.Prelude.{ℕ, List, [], ◌∷◌}
use Rattle.lp_calculus.specs.Types.{Ty}
pub use Rattle.lp_type_laws.specs.Equations.{Below as IsTypeBelow, AllBelow as AreTysBelow}

abbrev pub AreTypesBelow : (k : ℕ) → List Ty → Type 0
AreTypesBelow k [] = Unit {0}
AreTypesBelow k (t ∷ ts) = IsTypeBelow k t × AreTypesBelow k ts
