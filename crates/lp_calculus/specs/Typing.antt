-- Typing of a term (Church 1940, with the prenex polymorphic constants of Nadathur and Pfenning 1992): a relation by recursion on the
-- term. What a term is filled into or renamed to is typed by a map between contexts, that is, between the types of atoms.
use Rattle.std.specs.Prelude.{◌≡◌, ℕ, zero, suc, List, [], ◌∷◌, length, nat_eq, if◌then◌else◌, Option, Some, None, slice_get, slice_index_or}
use Rattle.lp_calculus.specs.Types.{Ty, con, arrow, no_types, types, instance}
use Rattle.lp_calculus.specs.Term.{Term, Atom, index, atom, abs, app, constant, integer, text, eigen, logic, param}
use Rattle.lp_calculus.specs.Fill.{at_variables}

-- the standard kinds
abbrev pub o_type : Ty
o_type = con 0 no_types

abbrev pub int_type : Ty
int_type = con 1 no_types

abbrev pub string_type : Ty
string_type = con 2 no_types

abbrev pub list_type : Ty → Ty
list_type t = con 3 (types t no_types)

-- a declared type, and how many type variables it has, which are those below that number
pub record Scheme : Type 0 where
  pub count : ℕ
  pub body : Ty

-- entry i of a list of types; where there is none, which no declared type asks for, `o`
abbrev pub type_at : List Ty → ℕ → Ty
type_at ts i = slice_index_or ts i o_type

-- a declared type with these types for its type variables, where they are as many as declared
abbrev pub scheme_type : List Ty → Option Scheme → Option Ty
scheme_type ts None = None
scheme_type ts (Some s) = if nat_eq (length ts) s.count then Some (instance (type_at ts) s.body) else None

-- the declared types of constants, the types of eigenconstants (that of level k is entry k - 1), and the types of logic variables
pub record Context : Type 0 where
  pub declared : ℕ → Option Scheme
  pub eigens : List Ty
  pub variables : (id level : ℕ) → Option Ty

abbrev pub eigen_type : List Ty → ℕ → Option Ty
eigen_type E zero = None
eigen_type E (suc k) = slice_get E k

-- the type of an atom, where it has one
abbrev pub atom_type : Context → Atom → Option Ty
atom_type K (constant c ts) = scheme_type ts (K.declared c)
atom_type K (integer z) = Some int_type
atom_type K (text s) = Some string_type
atom_type K (eigen k) = eigen_type K.eigens k
atom_type K (logic x l) = K.variables x l
atom_type K (param k T) = Some T

-- the term has the type, where τ gives the types of atoms and C those of the bound indices
abbrev pub HasType : (τ : Atom → Option Ty) → (C : List Ty) → Term → Ty → Type 0
HasType τ C (index i) T = slice_get C i ≡ Some T
HasType τ C (atom a) T = τ a ≡ Some T
HasType τ C (abs b) T = (A : Ty) × (B : Ty) × (T ≡ arrow A B) × HasType τ (A ∷ C) b B
HasType τ C (app t u) T = (A : Ty) × HasType τ C t (arrow A T) × HasType τ C u A

-- a head of type A on these arguments has type T
abbrev pub HaveTypes : (τ : Atom → Option Ty) → (C : List Ty) → (A : Ty) → List Term → (T : Ty) → Type 0
HaveTypes τ C A [] T = A ≡ T
HaveTypes τ C A (t ∷ ts) T = (B : Ty) × (D : Ty) × (A ≡ arrow B D) × HasType τ C t B × HaveTypes τ C D ts T

-- the term has the type in a context
abbrev pub Typed : Context → (C : List Ty) → Term → Ty → Type 0
Typed K C t T = HasType (atom_type K) C t T

-- a map between contexts: each atom that has a type is given a term of that type, with the indices of C
abbrev pub IsMap : (from to : Atom → Option Ty) → (C : List Ty) → (Atom → Term) → Type 0
IsMap τ κ C f = (a : Atom) → (A : Ty) → τ a ≡ Some A → HasType κ C (f a) A

-- terms for logic variables that lead from one context to another
abbrev pub IsClosingMap : (from to : Context) → (ℕ → ℕ → Term) → Type 0
IsClosingMap K L σ = IsMap (atom_type K) (atom_type L) [] (at_variables σ)
