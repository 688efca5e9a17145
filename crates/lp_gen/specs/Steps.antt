-- The steps that a term comes to, those of its parts before its own. What stands around it: types of the indices that are bound in the term, the innermost first,
-- and variables by their levels.
use Rattle.std.specs.Prelude.{ℕ, zero, suc, ℤ, ◌+◌, ◌-◌, ◌^◌, nat_lt, nat_le, Bool, true, if◌then◌else◌, min, List, [], ◌∷◌, ◌++◌, length, Option, Some, None, slice_get, option_map, option_and_then}
use Rattle.lp_calculus.specs.Types.{Ty, var, param as type_param, con, arrow, instance}
use Rattle.lp_calculus.specs.Term.{Term, Atom, index, atom, abs, app, constant, integer, text, eigen, logic, param}
use Rattle.lp_calculus.specs.Typing.{Scheme, o_type, type_at}
use Rattle.lp_standard.specs.Constants.{numbered, first_declared}
use Rattle.lp_standard.specs.Schemes.{scheme}
use Rattle.lp_model.specs.declared.program.Declared.{Declared}
use Rattle.lp_term.specs.Nodes.{Nodes, type_tree}

pub data Step : Type 0 where
  make_constant : ℕ → List Ty → Step
  make_integer : ℤ → Step
  make_text : List ℕ → Step
  make_index : ℕ → Ty → Step
  make_variable : (register : ℕ) → Ty → Step
  from_register : ℕ → Step
  apply_last : ℕ → Step
  abstract_last : Ty → Step

-- a variable
pub record Seen : Type 0 where
  pub register : ℕ
  pub of : Ty
  pub is_set : Bool

-- the own variables of a record by their levels, from `base` on, and those that it starts with
pub record Around : Type 0 where
  pub own : List Seen
  pub base : ℕ
  pub captured : ℕ → Option Seen

-- the two sides of a function's type; of another one `o`
abbrev pub from_of : Ty → Ty
from_of (arrow a b) = a
from_of (var i) = o_type
from_of (type_param k) = o_type
from_of (con c ts) = o_type

abbrev pub to_of : Ty → Ty
to_of (arrow a b) = b
to_of (var i) = o_type
to_of (type_param k) = o_type
to_of (con c ts) = o_type

-- how many variables there are, as far as levels count them
abbrev pub count_around : Around → ℕ
count_around a = min (a.base + length a.own) (2 ^ 64 - 1)

abbrev pub level_below : ℕ → ℕ → Option ℕ
level_below n i = if nat_lt i n then Some (n - i - 1) else None

-- the level of an index
abbrev pub level_in : Around → ℕ → Option ℕ
level_in a i = level_below (count_around a) i

-- the variable of a level
abbrev pub at_level : Around → ℕ → Option Seen
at_level a l = if nat_le a.base l then slice_get a.own (l - a.base) else a.captured l

abbrev pub seen_in : Around → ℕ → Option Seen
seen_in a i = option_and_then (at_level a) (level_in a i)

abbrev pub marked : List Seen → ℕ → List Seen
marked [] i = []
marked (v ∷ vs) zero = record { register = v.register; of = v.of; is_set = true } ∷ vs
marked (v ∷ vs) (suc i) = v ∷ marked vs i

-- the register of the variable of a level is set
abbrev pub set_level : Around → ℕ → Around
set_level a l = if nat_le a.base l then record { own = marked a.own (l - a.base); base = a.base; captured = a.captured } else a

-- the steps, and what then stands around
pub record Listed : Type 0 where
  pub steps : List Step
  pub around : Around

abbrev pub one_step : Around → Step → Listed
one_step a s = record { steps = s ∷ []; around = a }

-- a variable, which is made at its first place
abbrev pub seen_listed : Around → (level : ℕ) → Seen → Listed
seen_listed a l v = if v.is_set then one_step a (from_register v.register) else record { steps = make_variable v.register v.of ∷ from_register v.register ∷ []; around = set_level a l }

abbrev pub found_listed : Around → ℕ → Option Seen → Listed
found_listed a l None = one_step a (from_register 0)
found_listed a l (Some v) = seen_listed a l v

abbrev pub level_listed : Around → Option ℕ → Listed
level_listed a None = one_step a (from_register 0)
level_listed a (Some l) = found_listed a l (at_level a l)

abbrev pub bound_listed : List Ty → Around → ℕ → Option Ty → Listed
bound_listed C a i (Some T) = one_step a (make_index i T)
bound_listed C a i None = level_listed a (level_in a (i - length C))

abbrev pub index_listed : List Ty → Around → ℕ → Listed
index_listed C a i = bound_listed C a i (slice_get C i)

-- a term without parts
abbrev pub atom_listed : List Ty → Around → Atom → Listed
atom_listed C a (constant c ts) = one_step a (make_constant c ts)
atom_listed C a (integer z) = one_step a (make_integer z)
atom_listed C a (text s) = one_step a (make_text s)
atom_listed C a (eigen k) = index_listed C a 0
atom_listed C a (logic x l) = index_listed C a 0
atom_listed C a (param k T) = index_listed C a 0

-- the type of a head

abbrev pub type_or : Option Seen → Ty
type_or None = o_type
type_or (Some v) = v.of

abbrev pub bound_or : Around → ℕ → Option Ty → Ty
bound_or a i (Some T) = T
bound_or a i None = type_or (seen_in a i)

abbrev pub index_type : List Ty → Around → ℕ → Ty
index_type C a i = bound_or a (i - length C) (slice_get C i)

abbrev pub atom_function : (constants : ℕ → List Ty → Ty) → Atom → Ty
atom_function K (constant c ts) = K c ts
atom_function K (integer z) = o_type
atom_function K (text s) = o_type
atom_function K (eigen k) = o_type
atom_function K (logic x l) = o_type
atom_function K (param k T) = o_type

abbrev pub head_type : (constants : ℕ → List Ty → Ty) → List Ty → Around → Term → Ty
head_type K C a (index i) = index_type C a i
head_type K C a (atom s) = atom_function K s
head_type K C a (abs b) = o_type
head_type K C a (app t u) = o_type

-- what is read of the type of a standard constant with this type argument: each part that is no function and not of this type as `o`

abbrev pub as_asked : Ty → Ty → Ty
as_asked T (var i) = T
as_asked T (type_param k) = o_type
as_asked T (con c ts) = o_type
as_asked T (arrow a b) = arrow (as_asked T a) (as_asked T b)

abbrev pub scheme_body : Option Scheme → Ty
scheme_body None = o_type
scheme_body (Some s) = s.body

abbrev pub standard_type : ℕ → Ty → Ty
standard_type c T = as_asked T (scheme_body (option_and_then scheme (numbered c)))

-- of a standard constant without type arguments nothing is asked
abbrev pub standard_function : ℕ → List Ty → Ty
standard_function c [] = o_type
standard_function c (T ∷ Ts) = standard_type c T

abbrev pub declared_function : List Ty → Option Ty → Ty
declared_function Ts None = o_type
declared_function Ts (Some T) = instance (type_at Ts) T

abbrev pub declared_type : Nodes → List Declared → (place : ℕ) → Option Ty
declared_type b ds n = option_map (λ d. type_tree b d.scheme.0) (slice_get ds n)

abbrev pub constant_function : Nodes → List Declared → ℕ → List Ty → Ty
constant_function b ds c Ts = if nat_le first_declared c then declared_function Ts (declared_type b ds (c - first_declared)) else standard_function c Ts

-- a head with some of its arguments, the type that is left, and how many they are
pub record Headed : Type 0 where
  pub steps : List Step
  pub around : Around
  pub function : Ty
  pub count : ℕ

abbrev pub as_head : Ty → Listed → Headed
as_head T l = record { steps = l.steps; around = l.around; function = T; count = 0 }

abbrev pub with_argument : Headed → Listed → Headed
with_argument h l = record { steps = h.steps ++ l.steps; around = l.around; function = to_of h.function; count = h.count + 1 }

abbrev pub applied : Headed → Listed
applied h = record { steps = h.steps ++ apply_last h.count ∷ []; around = h.around }

abbrev pub abstracted : Ty → Listed → Listed
abstracted T l = record { steps = l.steps ++ abstract_last T ∷ []; around = l.around }

-- a term of a type: of one that is no function's, any will do
abbrev mutual
  pub listed : (constants : ℕ → List Ty → Ty) → List Ty → Around → Ty → Term → Listed
  listed K C a T (index i) = index_listed C a i
  listed K C a T (atom s) = atom_listed C a s
  listed K C a T (abs b) = abstracted (from_of T) (listed K (from_of T ∷ C) a (to_of T) b)
  listed K C a T (app t u) = applied (with_argument (headed K C a t) (listed K C (headed K C a t).around (from_of (headed K C a t).function) u))

  pub headed : (constants : ℕ → List Ty → Ty) → List Ty → Around → Term → Headed
  headed K C a (index i) = as_head (index_type C a i) (index_listed C a i)
  headed K C a (atom s) = as_head (atom_function K s) (atom_listed C a s)
  headed K C a (abs b) = as_head o_type (abstracted o_type (listed K (o_type ∷ C) a o_type b))
  headed K C a (app t u) = with_argument (headed K C a t) (listed K C (headed K C a t).around (from_of (headed K C a t).function) u)

-- the level and register of the variable that an argument is, where this is its first place
abbrev pub if_unset : ℕ → Option Seen → Option (ℕ × ℕ)
if_unset l None = None
if_unset l (Some v) = if v.is_set then None else Some (l, v.register)

abbrev pub level_first : Around → Option ℕ → Option (ℕ × ℕ)
level_first a None = None
level_first a (Some l) = if_unset l (at_level a l)

abbrev pub first_place : Around → Term → Option (ℕ × ℕ)
first_place a (index i) = level_first a (level_in a i)
first_place a (atom s) = None
first_place a (abs b) = None
first_place a (app t u) = None
