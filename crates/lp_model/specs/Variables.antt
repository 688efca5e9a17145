-- Logic variables with their types and scopes: what is typed over them.
use Rattle.std.specs.Prelude.{◌≡◌, ℕ, ◌<◌, ◌≤◌, nat_eq, if◌then◌else◌, List, [], ◌++◌, length, Option, Some, None, slice_get}
use Rattle.lp_calculus.specs.Types.{Ty, instance}
use Rattle.lp_calculus.specs.Term.{Term, Atom, constant, integer, text, eigen, logic, param}
use Rattle.lp_calculus.specs.Fill.{Within}
use Rattle.lp_calculus.specs.Typing.{Scheme, Context, Typed, o_type}
use Rattle.lp_calculus.specs.Instance.{instance_term}

-- of a logic variable its type, and its scope: the types of the eigenconstants up to its level
pub record Variable : Type 0 where
  pub type : Ty
  pub scope : List Ty

-- a variable's level is the length of its scope
abbrev pub type_of : Option Variable → ℕ → Option Ty
type_of None l = None
type_of (Some v) l = if nat_eq l (length v.scope) then Some v.type else None

abbrev pub over : (ℕ → Option Scheme) → List Ty → List Variable → Context
over d E V = record { declared = d; eigens = E; variables = λ x l. type_of (slice_get V x) l }

pub record IsPrefix (E F : List Ty) : Type 0 where
  pub rest : List Ty
  pub is : F ≡ E ++ rest

-- the scope of each variable that stands in the term is a prefix of these types
abbrev pub IsScopedAtom : List Variable → List Ty → Atom → Type 0
IsScopedAtom V E (logic x l) = (v : Variable) → slice_get V x ≡ Some v → IsPrefix v.scope E
IsScopedAtom V E (constant c ts) = Unit {0}
IsScopedAtom V E (integer z) = Unit {0}
IsScopedAtom V E (text s) = Unit {0}
IsScopedAtom V E (eigen k) = k ≤ length E
IsScopedAtom V E (param k t) = Unit {0}

-- types for the type variables from k on change nothing
abbrev pub HasTypesBelow : ℕ → Term → Type 0
HasTypesBelow k t = (θ κ : ℕ → Ty) → ((i : ℕ) → i < k → θ i ≡ κ i) → instance_term θ t ≡ instance_term κ t

-- the type of the variable, and those of its scope, have only type variables below k
pub record IsVariableBelow (k : ℕ) (v : Variable) : Type 0 where
  pub type : (θ κ : ℕ → Ty) → ((i : ℕ) → i < k → θ i ≡ κ i) → instance θ v.type ≡ instance κ v.type
  pub scope : (j : ℕ) (T : Ty) → slice_get v.scope j ≡ Some T → (θ κ : ℕ → Ty) → ((i : ℕ) → i < k → θ i ≡ κ i) → instance θ T ≡ instance κ T

-- a formula over logic variables and the first k type variables, at the eigenconstants E
pub record IsFormulaOver (d : ℕ → Option Scheme) (E : List Ty) (V : List Variable) (k : ℕ) (t : Term) : Type 0 where
  pub typed : Typed (over d E V) [] t o_type
  pub scoped : Within (IsScopedAtom V E) 0 t
  pub below : HasTypesBelow k t
