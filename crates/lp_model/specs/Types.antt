-- Most general solutions of type equations (Robinson 1965), with the units that they take.
use Rattle.std.specs.Prelude.{ℕ, zero, suc, ◌+◌, nat_eq, nat_lt, if◌then◌else◌, Bool, false, List, [], ◌∷◌, ◌++◌, map, Option, Some, None}
use Rattle.lp_calculus.specs.Types.{Ty, Tys, var, param, con, arrow, no_types, types, instance}

pub record TypePair : Type 0 where
  pub left : Ty
  pub right : Ty

pub record TypeBinding : Type 0 where
  pub id : ℕ
  pub value : Ty

-- a type for one type variable
abbrev pub one_type : TypeBinding → ℕ → Ty
one_type b i = if nat_eq i b.id then b.value else var i

abbrev pub put_type : TypeBinding → Ty → Ty
put_type b t = instance (one_type b) t

abbrev pub put_types : List TypeBinding → Ty → Ty
put_types [] t = t
put_types (b ∷ bs) t = put_types bs (put_type b t)

abbrev pub put_in_pair : TypeBinding → TypePair → TypePair
put_in_pair b p = record { left = put_type b p.left; right = put_type b p.right }

-- depth first, left to right, up to the first place of the variable: whether it stands there, and how many nodes were visited
pub record Visited : Type 0 where
  pub found : Bool
  pub units : ℕ

abbrev pub and_then : Visited → Visited → Visited
and_then v w = if v.found then v else record { found = w.found; units = v.units + w.units }

abbrev pub one_more : Visited → Visited
one_more v = record { found = v.found; units = suc v.units }

abbrev mutual
  pub visit : ℕ → Ty → Visited
  visit x (var i) = record { found = nat_eq i x; units = 1 }
  visit x (param k) = record { found = false; units = 1 }
  visit x (con c ts) = one_more (visit_all x ts)
  visit x (arrow a b) = one_more (and_then (visit x a) (visit x b))

  pub visit_all : ℕ → Tys → Visited
  visit_all x no_types = record { found = false; units = 0 }
  visit_all x (types t ts) = and_then (visit x t) (visit_all x ts)

pub data TypeVerdict : Type 0 where
  differ : TypeVerdict
  parts : List TypePair → TypeVerdict
  bound : TypeBinding → TypeVerdict

pub record TypeRuled : Type 0 where
  pub verdict : TypeVerdict
  pub units : ℕ

-- the parts of two lists of types, where they are as many
abbrev pub parts_of : Tys → Tys → Option (List TypePair)
parts_of no_types no_types = Some []
parts_of (types t ts) (types u us) = elim (parts_of ts us) [ None ↦ None | Some ps ↦ Some (record { left = t; right = u } ∷ ps) ]
parts_of no_types (types u us) = None
parts_of (types t ts) no_types = None

-- the variable becomes the type, unless it stands in it
abbrev pub bind_type : ℕ → Ty → TypeRuled
bind_type x t = if (visit x t).found then record { verdict = differ; units = (visit x t).units } else record { verdict = bound (record { id = x; value = t }); units = (visit x t).units }

abbrev pub plainly : TypeVerdict → TypeRuled
plainly v = record { verdict = v; units = 0 }

abbrev pub of_parts : Option (List TypePair) → TypeRuled
of_parts None = plainly differ
of_parts (Some ps) = plainly (parts ps)

-- of two variables the younger is bound
abbrev pub type_rule : Ty → Ty → TypeRuled
type_rule (var i) (var j) = if nat_eq i j then plainly (parts []) else (if nat_lt i j then bind_type j (var i) else bind_type i (var j))
type_rule (var i) (param k) = bind_type i (param k)
type_rule (var i) (con c ts) = bind_type i (con c ts)
type_rule (var i) (arrow a b) = bind_type i (arrow a b)
type_rule (param k) (var j) = bind_type j (param k)
type_rule (con c ts) (var j) = bind_type j (con c ts)
type_rule (arrow a b) (var j) = bind_type j (arrow a b)
type_rule (param k) (param l) = if nat_eq k l then plainly (parts []) else plainly differ
type_rule (param k) (con c ts) = plainly differ
type_rule (param k) (arrow a b) = plainly differ
type_rule (con c ts) (param k) = plainly differ
type_rule (con c ts) (con d us) = if nat_eq c d then of_parts (parts_of ts us) else plainly differ
type_rule (con c ts) (arrow a b) = plainly differ
type_rule (arrow a b) (param k) = plainly differ
type_rule (arrow a b) (con d us) = plainly differ
type_rule (arrow a b) (arrow c d) = plainly (parts (record { left = a; right = c } ∷ record { left = b; right = d } ∷ []))

-- two lists of types, pair by pair
abbrev pub zipped : List Ty → List Ty → List TypePair
zipped (t ∷ ts) (u ∷ us) = record { left = t; right = u } ∷ zipped ts us
zipped ts us = []

-- the pairs of parts of two types that begin in the same way
abbrev pub same_top : Ty → Ty → Option (List TypePair)
same_top (var i) (var j) = if nat_eq i j then Some [] else None
same_top (param k) (param l) = if nat_eq k l then Some [] else None
same_top (con c ts) (con d us) = if nat_eq c d then parts_of ts us else None
same_top (arrow a b) (arrow c d) = Some (record { left = a; right = c } ∷ record { left = b; right = d } ∷ [])
same_top t u = None

-- what equations come to: no solution, or bindings in the order made; with the units taken
pub data TypeOutcome : Type 0 where
  none : (units : ℕ) → TypeOutcome
  solved : (bindings : List TypeBinding) → (units : ℕ) → TypeOutcome

-- so many pairs at most, behind the bindings made and the units taken
abbrev pub solve_types : ℕ → List TypePair → (made : List TypeBinding) → (units : ℕ) → Option TypeOutcome
solve_types zero ps made u = None
solve_types (suc n) [] made u = Some (solved made u)
solve_types (suc n) (p ∷ ps) made u = elim (type_rule p.left p.right).verdict [
  | differ ↦ Some (none (suc u + (type_rule p.left p.right).units))
  | parts qs ↦ solve_types n (qs ++ ps) made (suc u + (type_rule p.left p.right).units)
  | bound b ↦ solve_types n (map (put_in_pair b) ps) (made ++ b ∷ []) (suc u + (type_rule p.left p.right).units)
]
