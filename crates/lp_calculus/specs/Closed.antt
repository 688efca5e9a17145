-- Terms that are closed at a level.
use Rattle.std.specs.Prelude.{◌≡◌, ℕ, ◌≤◌, List, [], ◌∷◌}
use Rattle.lp_calculus.specs.Types.{Ty, Tys, var, param as type_param, con, arrow, no_types, types}
use Rattle.lp_calculus.specs.Term.{Term, Atom, index, atom, abs, app, constant, integer, text, eigen, logic, param}
use Rattle.lp_calculus.specs.Fill.{Within}

-- the type has no type variable; type parameters are allowed
abbrev mutual
  pub IsClosedType : Ty → Type 0
  IsClosedType (var i) = ⊥
  IsClosedType (type_param k) = Unit {0}
  IsClosedType (con c ts) = AreClosedTypes ts
  IsClosedType (arrow a b) = IsClosedType a × IsClosedType b

  pub AreClosedTypes : Tys → Type 0
  AreClosedTypes no_types = Unit {0}
  AreClosedTypes (types t ts) = IsClosedType t × AreClosedTypes ts

abbrev pub AreClosed : List Ty → Type 0
AreClosed [] = Unit {0}
AreClosed (t ∷ ts) = IsClosedType t × AreClosed ts

-- no logic variable, no type variable, and no eigenconstant above n
abbrev pub IsClosedAtom : ℕ → Atom → Type 0
IsClosedAtom n (constant c ts) = AreClosed ts
IsClosedAtom n (integer z) = Unit {0}
IsClosedAtom n (text s) = Unit {0}
IsClosedAtom n (eigen k) = k ≤ n
IsClosedAtom n (logic x l) = ⊥
IsClosedAtom n (param k t) = IsClosedType t

-- closed at level n: only such atoms, and no loose index
abbrev pub IsClosedAt : ℕ → Term → Type 0
IsClosedAt n t = Within (IsClosedAtom n) 0 t

-- each atom of the term is among the given ones
abbrev pub AllAtoms : (Atom → Type 0) → Term → Type 0
AllAtoms P (index i) = Unit {0}
AllAtoms P (atom a) = P a
AllAtoms P (abs b) = AllAtoms P b
AllAtoms P (app t u) = AllAtoms P t × AllAtoms P u
