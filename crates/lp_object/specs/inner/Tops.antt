-- The bytes of the tops of types, what has such bytes, and the tops of a type.
use Rattle.std.specs.Prelude.{◌≡◌, ℕ, ◌<◌, List, [], ◌∷◌, ◌++◌, Some, ⊤}
use Rattle.lp_calculus.specs.Types.{Ty, Tys, var, param, con, arrow, no_types, types}
use Rattle.lp_bytes.specs.Numbers.{spelled_one}
use Rattle.lp_object.specs.declared.width.Width.{Width}
use Rattle.lp_object.specs.Numbers.{spelled_number}
use Rattle.lp_object.specs.Reading.{Scope, arity_of, TypeTop, variable, kind, an_arrow}
use Rattle.lp_object.specs.Spellable.{IsNumber, how_many}

abbrev pub spelled_type_top : Width → TypeTop → List ℕ
spelled_type_top w (variable v) = 0 ∷ spelled_one v
spelled_type_top w (kind k n) = 1 ∷ spelled_number w k
spelled_type_top w an_arrow = 2 ∷ []

abbrev pub IsTypeTop : Scope → ⊤ → TypeTop → Type 0
IsTypeTop d one (variable v) = (v < d.variables) × (v < 256)
IsTypeTop d one (kind k n) = IsNumber d.width k × (arity_of d.arities k ≡ Some n)
IsTypeTop d one an_arrow = Unit {0}

abbrev mutual
  pub type_tops : Ty → List TypeTop
  type_tops (var v) = variable v ∷ []
  type_tops (param v) = variable v ∷ []
  type_tops (con k ts) = kind k (how_many ts) ∷ tops_of_each ts
  type_tops (arrow a b) = an_arrow ∷ type_tops a ++ type_tops b

  pub tops_of_each : Tys → List TypeTop
  tops_of_each no_types = []
  tops_of_each (types t ts) = type_tops t ++ tops_of_each ts
