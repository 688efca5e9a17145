-- What stands in programs.
use Rattle.std.specs.Prelude.{◌≡◌, ℕ, ◌<◌, List, [], ◌∷◌, length}
use Rattle.lp_calculus.specs.Types.{Ty, Tys, var, param as type_param, con, arrow, no_types, types}
use Rattle.lp_calculus.specs.Term.{Term, Atom, constant, integer, text, eigen, logic, param}
use Rattle.lp_calculus.specs.Fill.{Within}

-- the type variables are below k
abbrev mutual
  pub IsTypeBelow : ℕ → Ty → Type 0
  IsTypeBelow k (var i) = i < k
  IsTypeBelow k (type_param j) = Unit {0}
  IsTypeBelow k (con c ts) = AreTysBelow k ts
  IsTypeBelow k (arrow a b) = IsTypeBelow k a × IsTypeBelow k b

  pub AreTysBelow : ℕ → Tys → Type 0
  AreTysBelow k no_types = Unit {0}
  AreTysBelow k (types t ts) = IsTypeBelow k t × AreTysBelow k ts

abbrev pub AreTypesBelow : ℕ → List Ty → Type 0
AreTypesBelow k [] = Unit {0}
AreTypesBelow k (t ∷ ts) = IsTypeBelow k t × AreTypesBelow k ts

-- a constant with as many types as it takes, an integer or a text
abbrev pub WrittenAtom : (arity : ℕ → ℕ) → (k : ℕ) → Atom → Type 0
WrittenAtom ar k (constant c ts) = (length ts ≡ ar c) × AreTypesBelow k ts
WrittenAtom ar k (integer z) = Unit {0}
WrittenAtom ar k (text s) = Unit {0}
WrittenAtom ar k (eigen j) = ⊥
WrittenAtom ar k (logic x l) = ⊥
WrittenAtom ar k (param j t) = ⊥

-- a term of a program, whose loose indices are below d
abbrev pub IsWritten : (arity : ℕ → ℕ) → (k d : ℕ) → Term → Type 0
IsWritten ar k d t = Within (WrittenAtom ar k) d t
