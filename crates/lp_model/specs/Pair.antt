-- Pairs of terms, closings, and which closings solve a pair.
use Rattle.std.specs.Prelude.{ℕ, List, [], ◌∷◌}
use Rattle.lp_calculus.specs.Types.{Ty}
use Rattle.lp_calculus.specs.Term.{Term}
use Rattle.lp_calculus.specs.Convert.{Converts}
use Rattle.lp_calculus.specs.Fill.{close, Binding, put}
use Rattle.lp_calculus.specs.Instance.{instance_term}
use Rattle.lp_model.specs.Types.{TypeBinding, one_type}

pub record Pair : Type 0 where
  pub left : Term
  pub right : Term
  pub level : ℕ

abbrev pub put_pair : Binding → Pair → Pair
put_pair b p = record { left = put b p.left; right = put b p.right; level = p.level }

-- a type for a type variable, in a term
abbrev pub put_type_in : TypeBinding → Term → Term
put_type_in b t = instance_term (one_type b) t

abbrev pub put_types_in : List TypeBinding → Term → Term
put_types_in [] t = t
put_types_in (b ∷ bs) t = put_types_in bs (put_type_in b t)

abbrev pub type_pair : TypeBinding → Pair → Pair
type_pair b p = record { left = put_type_in b p.left; right = put_type_in b p.right; level = p.level }

-- types for the type variables and terms for the logic variables
pub record Closing : Type 0 where
  pub types : ℕ → Ty
  pub terms : ℕ → ℕ → Term

abbrev pub closed : Closing → Term → Term
closed c t = close c.terms (instance_term c.types t)

-- both sides then convert
abbrev pub Solves : Closing → Pair → Type 0
Solves c p = Converts (closed c p.left) (closed c p.right)

abbrev pub SolvesAll : Closing → List Pair → Type 0
SolvesAll c [] = Unit {0}
SolvesAll c (p ∷ ps) = Solves c p × SolvesAll c ps
