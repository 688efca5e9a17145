-- What stands in the registers of a record while its instructions are run on plain terms: types, and terms with their types.
use Rattle.std.specs.Prelude.{ℕ, zero, suc, nat_eq, Bool, true, false, ◌&&◌, if◌then◌else◌, List, [], ◌∷◌, ◌++◌, map, replicate, Option, Some, None, slice_get, slice_set, unwrap_or}
use Rattle.std.specs.Option.{option_flatten}
use Rattle.lp_calculus.specs.Types.{Ty, Tys, var, param as type_param, con, arrow, no_types, types}
use Rattle.lp_calculus.specs.Term.{Term, index, atom, abs, apply, logic}
use Rattle.lp_calculus.specs.Typing.{Scheme, o_type}

-- the counts of arguments of kinds, and the declared types of constants
pub record Tables : Type 0 where
  pub kinds : ℕ → Option ℕ
  pub constants : ℕ → Option Scheme

-- a variable, named by the register in which it was made and by the number of its record: no code makes a logic variable otherwise
abbrev pub variable : (register home : ℕ) → Term
variable r h = atom (logic r h)

-- a term in the making, with the types of its loose indices where they stand: those of abstractions that are still to come
pub record Built : Type 0 where
  pub term : Term
  pub type : Ty
  pub loose : List (Option Ty)

-- what is set now
pub record Registers : Type 0 where
  pub types : List (Option Ty)
  pub terms : List (Option Built)

abbrev pub held : {A : Type 0} → List (Option A) → ℕ → Option A
held xs r = option_flatten (slice_get xs r)

-- a register that is not set is read by no code that denotes anything
abbrev pub type_in : Registers → ℕ → Ty
type_in s t = unwrap_or (held s.types t) o_type

abbrev pub types_in : Registers → List ℕ → List Ty
types_in s ts = map (type_in s) ts

abbrev pub term_in : Registers → ℕ → Built
term_in s r = unwrap_or (held s.terms r) (record { term = index 0; type = o_type; loose = [] })

abbrev pub terms_in : Registers → List ℕ → List Built
terms_in s rs = map (term_in s) rs

abbrev pub set_type : Registers → ℕ → Ty → Registers
set_type s d T = record { types = slice_set s.types d (Some T); terms = s.terms }

abbrev pub set_term : Registers → ℕ → Built → Registers
set_term s d b = record { types = s.types; terms = slice_set s.terms d (Some b) }

-- a term without loose indices
abbrev pub whole : Term → Ty → Built
whole t T = record { term = t; type = T; loose = [] }

abbrev pub plain_terms : List Built → List Term
plain_terms bs = map (λ (b : Built). b.term) bs

-- types are compared as they stand
abbrev mutual
  pub equal_types : Ty → Ty → Bool
  equal_types (var i) (var j) = nat_eq i j
  equal_types (type_param i) (type_param j) = nat_eq i j
  equal_types (con c ts) (con d us) = nat_eq c d && equal_lists ts us
  equal_types (arrow a b) (arrow c d) = equal_types a c && equal_types b d
  equal_types t u = false

  pub equal_lists : Tys → Tys → Bool
  equal_lists no_types no_types = true
  equal_lists (types t ts) (types u us) = equal_types t u && equal_lists ts us
  equal_lists ts us = false

-- what a function of this type gives on arguments of these types
abbrev pub applied_type : Ty → List Ty → Option Ty
applied_type T [] = Some T
applied_type (arrow a b) (U ∷ Us) = if equal_types a U then applied_type b Us else None
applied_type T (U ∷ Us) = None

-- the type of an argument by its number
abbrev pub argument_type : Ty → ℕ → Option Ty
argument_type (arrow a b) zero = Some a
argument_type (arrow a b) (suc i) = argument_type b i
argument_type T i = None

-- what is left of a function's type behind so many arguments
abbrev pub result_type : Ty → ℕ → Ty
result_type T zero = T
result_type (arrow a b) (suc n) = result_type b n
result_type T (suc n) = T

-- an index has one type wherever it stands
abbrev pub agree_at : Option Ty → Option Ty → Bool
agree_at (Some T) (Some U) = equal_types T U
agree_at (Some T) None = true
agree_at None o = true

abbrev pub agree : (left right : List (Option Ty)) → Bool
agree [] right = true
agree (l ∷ left) [] = true
agree (l ∷ left) (r ∷ right) = agree_at l r && agree left right

abbrev pub either_of : Option Ty → Option Ty → Option Ty
either_of (Some T) o = Some T
either_of None o = o

abbrev pub joined : (left right : List (Option Ty)) → List (Option Ty)
joined [] right = right
joined (l ∷ left) [] = l ∷ left
joined (l ∷ left) (r ∷ right) = either_of l r ∷ joined left right

abbrev pub all_joined : List (Option Ty) → List Built → List (Option Ty)
all_joined l [] = l
all_joined l (b ∷ bs) = all_joined (joined l b.loose) bs

abbrev pub all_agree : List (Option Ty) → List Built → Bool
all_agree l [] = true
all_agree l (b ∷ bs) = agree l b.loose && all_agree (joined l b.loose) bs

abbrev pub is_closed : List (Option Ty) → Bool
is_closed [] = true
is_closed (None ∷ more) = is_closed more
is_closed (Some T ∷ more) = false

abbrev pub innermost : List (Option Ty) → Option Ty
innermost [] = None
innermost (o ∷ more) = o

abbrev pub outer : List (Option Ty) → List (Option Ty)
outer [] = []
outer (o ∷ more) = more

abbrev pub bound_index : ℕ → Ty → Built
bound_index i T = record { term = index i; type = T; loose = replicate i None ++ Some T ∷ [] }

abbrev pub abstraction_of : Built → Ty → Built
abstraction_of b T = record { term = abs b.term; type = arrow T b.type; loose = outer b.loose }

abbrev pub application_of : Built → List Built → Built
application_of f bs = record {
  term = apply f.term (plain_terms bs);
  type = unwrap_or (applied_type f.type (map (λ (b : Built). b.type) bs)) o_type;
  loose = all_joined f.loose bs;
}
