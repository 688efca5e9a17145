-- Types as they are kept: numbers of a bank, and for each the first number of an equal type.
use Rattle.std.specs.Prelude.{◌≡◌, ◌<◌, ◌≤◌, ◌+◌, ℕ, nat_eq, Bool, false, ◌&&◌, List, [], ◌∷◌, map, length, Option, Some, None, Result, Ok, Err, slice_index_or}
use Rattle.std.specs.Map.{lookup}
use Rattle.std.specs.Str.{bytes_eq}
use Rattle.lp_calculus.specs.Types.{Ty, var, param, con, arrow, instance}
use Rattle.lp_calculus.specs.Typing.{Scheme, o_type, int_type, string_type, type_at as type_of}
use Rattle.lp_code.specs.Symbolic.{Tables, argument_type}
use Rattle.lp_code.specs.Steps.{constant_type}
use Rattle.lp_term.specs.declared.node.TypeId.{TypeId}
use Rattle.lp_term.specs.Node.{TypeShape, var_node, param_node, con_node, arrow_node}
use Rattle.lp_term.specs.Nodes.{IsSound, type_tree, type_at}
use Rattle.lp_verify.specs.declared.types.Types.{Types}
use Rattle.lp_verify.specs.declared.types.Use.{Use}
use Rattle.lp_verify.specs.declared.types.TypeKey.{TypeKey}
use Rattle.lp_verify.specs.declared.types.TypeKey.TheVariants.{Var, Param, Con, Arrow}

abbrev pub first_of : Types → ℕ → ℕ
first_of x i = slice_index_or x.firsts.items i i

-- a key is a node whose parts are first numbers
abbrev pub shape_of : TypeKey → TypeShape
shape_of (Var n) = var_node n
shape_of (Param n) = param_node n
shape_of (Con k v) = con_node k v.items
shape_of (Arrow a b) = arrow_node a b

abbrev pub renumbered : (ℕ → ℕ) → TypeShape → TypeShape
renumbered f (var_node i) = var_node i
renumbered f (param_node k) = param_node k
renumbered f (con_node c ids) = con_node c (map f ids)
renumbered f (arrow_node a b) = arrow_node (f a) (f b)

abbrev pub key_at : Types → ℕ → TypeShape
key_at x i = renumbered (first_of x) (type_at x.bank i)

-- two keys are one
abbrev pub same_shape : TypeShape → TypeShape → Bool
same_shape (var_node i) (var_node j) = nat_eq i j
same_shape (param_node i) (param_node j) = nat_eq i j
same_shape (con_node c ids) (con_node d jds) = nat_eq c d && bytes_eq ids jds
same_shape (arrow_node a b) (arrow_node c d) = nat_eq a c && nat_eq b d
same_shape p q = false

abbrev pub number_at : Types → TypeKey → Option ℕ
number_at x k = lookup (λ q. same_shape (shape_of k) (shape_of q)) x.keys.entries

-- the first numbers of so many types are found by their keys: each is the first one with its key
pub record AreFound (n : ℕ) (x : Types) : Type 0 where
  pub sound : IsSound x.bank
  pub within : n ≤ length x.bank.types
  pub count : length x.firsts.items ≡ n
  pub low : (i : ℕ) → i < n → first_of x i ≤ i
  pub found : (i : ℕ) → i < n → (k : TypeKey) × (shape_of k ≡ key_at x i) × (number_at x k ≡ Some (first_of x i))
  pub told : (k : TypeKey) (f : ℕ) → number_at x k ≡ Some f → (f < n) × (key_at x f ≡ shape_of k)

abbrev pub AreFirsts : Types → Type 0
AreFirsts x = AreFound (length x.bank.types) x

-- equal types have one first number, which has their tree
pub record AreNumbered (x : Types) : Type 0 where
  pub same : (i : ℕ) → i < length x.bank.types → (first_of x i < length x.bank.types) × (type_tree x.bank (first_of x i) ≡ type_tree x.bank i)
  pub one : (i j : ℕ) → i < length x.bank.types → j < length x.bank.types → type_tree x.bank i ≡ type_tree x.bank j → first_of x i ≡ first_of x j

-- what the finding of first numbers leaves as it is
abbrev pub SameBank : Types → Types → Type 0
SameBank x y = (y.bank ≡ x.bank) × (y.proposition ≡ x.proposition) × (y.integer ≡ x.integer) × (y.text ≡ x.text) × (y.uses ≡ x.uses)

abbrev pub FirstsStay : ℕ → Types → Types → Type 0
FirstsStay n x y = (i : ℕ) → i < n → first_of y i ≡ first_of x i

-- a first number, and its type
abbrev pub IsType : Types → TypeId → Ty → Type 0
IsType x t T = (t.0 < length x.bank.types) × (first_of x t.0 ≡ t.0) × (type_tree x.bank t.0 ≡ T) × AreFirsts x

abbrev pub AreTypes : Types → List TypeId → List Ty → Type 0
AreTypes x [] [] = Unit {0}
AreTypes x (t ∷ ts) (T ∷ Ts) = IsType x t T × AreTypes x ts Ts
AreTypes x ts Ts = ⊥

-- types are put: the numbers of others stay
pub record TypesGrow (x y : Types) : Type 0 where
  pub firsts : AreFirsts x → AreFirsts y
  pub stay : (t : TypeId) (T : Ty) → IsType x t T → IsType y t T
  pub proposition : y.proposition ≡ x.proposition
  pub integer : y.integer ≡ x.integer
  pub text : y.text ≡ x.text

-- constants with types for their type variables

abbrev pub same_use : Use → Use → Bool
same_use u v = nat_eq u.constant v.constant && bytes_eq u.types.items v.types.items

abbrev pub type_used : Types → Use → Option TypeId
type_used x u = lookup (λ v. same_use u v) x.uses.entries

abbrev pub as_types : List ℕ → List TypeId
as_types ns = map (λ n. record { 0 = n }) ns

pub record IsUse (t : Tables) (x : Types) (u : Use) (i : TypeId) : Type 0 where
  pub scheme : Scheme
  pub declared : t.constants u.constant ≡ Some scheme
  pub types : List Ty
  pub numbers : AreTypes x (as_types u.types.items) types
  pub is : IsType x i (instance (type_of types) scheme.body)

-- the types that are kept of constants are those of these tables
abbrev pub UsesAre : Tables → Types → Type 0
UsesAre t x = (u : Use) (i : TypeId) → type_used x u ≡ Some i → IsUse t x u i

abbrev pub UsesStay : Types → Types → Type 0
UsesStay x y = (t : Tables) → UsesAre t x → UsesAre t y

-- those that stand for the types of the language
pub record HasBasics (x : Types) : Type 0 where
  pub firsts : AreFirsts x
  pub proposition : IsType x x.proposition o_type
  pub integer : IsType x x.integer int_type
  pub text : IsType x x.text string_type

-- of a declared type this is the type on other types
abbrev pub IsTypeOfConstant : (x y : Types) → (constant : ℕ) → Scheme → List TypeId → TypeId → Type 0
IsTypeOfConstant x y c s ts i = (t : Tables) (Ts : List Ty) → t.constants c ≡ Some s → HasBasics x → UsesAre t x → AreTypes x ts Ts → IsType y i (instance (type_of Ts) s.body) × UsesAre t y

-- of a scheme, or none, this is the type that the definition gives the constant
abbrev pub IsTypeOfDeclared : (x y : Types) → (constant : ℕ) → Option Scheme → List TypeId → TypeId → Type 0
IsTypeOfDeclared x y c o ts i = (t : Tables) (Ts : List Ty) → t.constants c ≡ o → HasBasics x → UsesAre t x → AreTypes x ts Ts → IsType y i (constant_type t c Ts) × UsesAre t y

-- what a function type takes and gives, as it is told of a type
abbrev pub IsArrowAs : Types → Ty → Option (TypeId × TypeId) → Type 0
IsArrowAs x (arrow A B) (Some p) = IsType x p.0 A × IsType x p.1 B
IsArrowAs x (arrow A B) None = ⊥
IsArrowAs x (con c Ts) None = Unit {0}
IsArrowAs x (var i) None = Unit {0}
IsArrowAs x (param i) None = Unit {0}
IsArrowAs x T (Some p) = ⊥

-- what a function's type gives, by its number, or whether another type is `o`
abbrev pub IsEndOf : TypeShape → Result TypeId Bool → Type 0
IsEndOf (arrow_node a b) (Ok t) = t.0 ≡ b
IsEndOf (arrow_node a b) (Err is) = ⊥
IsEndOf (con_node c ids) (Ok t) = ⊥
IsEndOf (con_node c ids) (Err is) = is ≡ nat_eq c 0
IsEndOf (var_node i) (Ok t) = ⊥
IsEndOf (var_node i) (Err is) = is ≡ false
IsEndOf (param_node k) (Ok t) = ⊥
IsEndOf (param_node k) (Err is) = is ≡ false

-- what is left of a function's type behind so many arguments, where it takes as many; an argument behind them is then one of what is left
abbrev pub IsLeftAt : Types → Ty → ℕ → Option TypeId → Type 0
IsLeftAt x T n None = (i : ℕ) → argument_type T (n + i) ≡ None
IsLeftAt x T n (Some t) = (U : Ty) × IsType x t U × ((i : ℕ) → argument_type T (n + i) ≡ argument_type U i)
