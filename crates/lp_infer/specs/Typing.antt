-- A text with its names looked up, the typed formulas that leave it, and their types.
use Rattle.std.specs.Prelude.{◌≡◌, ℕ, List, [], ◌∷◌, ◌++◌, map, length, Option, Some, None, slice_get, ℤ}
use Rattle.lp_calculus.specs.Types.{Ty, arrow, instance}
use Rattle.lp_calculus.specs.Term.{Term, Atom, index, atom, abs, app, constant, integer, text, eigen, logic, param}
use Rattle.lp_calculus.specs.Typing.{Scheme, o_type, int_type, string_type, type_at}

-- a text as it was written: bound names and variables are indices, a constant has its number and its declared type, and a bound name
-- may have the type that is written for it
pub data Raw : Type 0 where
  raw_index : ℕ → Raw
  raw_constant : (number : ℕ) → Scheme → Raw
  raw_integer : ℤ → Raw
  raw_text : List ℕ → Raw
  raw_abs : (given : Option Ty) → Raw → Raw
  raw_app : Raw → Raw → Raw

-- types for the type variables of the types that are written
abbrev pub put_given : (ℕ → Ty) → Option Ty → Option Ty
put_given κ None = None
put_given κ (Some A) = Some (instance κ A)

abbrev pub put_raw : (ℕ → Ty) → Raw → Raw
put_raw κ (raw_index i) = raw_index i
put_raw κ (raw_constant c s) = raw_constant c s
put_raw κ (raw_integer z) = raw_integer z
put_raw κ (raw_text s) = raw_text s
put_raw κ (raw_abs given b) = raw_abs (put_given κ given) (put_raw κ b)
put_raw κ (raw_app f u) = raw_app (put_raw κ f) (put_raw κ u)

-- the type of a bound name is the one that is written for it
abbrev pub IsGiven : Option Ty → Ty → Type 0
IsGiven None P = Unit {0}
IsGiven (Some A) P = P ≡ A

-- the formula t has the type A, C has the types of the indices; t is the text when the type arguments of its constants are left out
abbrev pub Elaborates : List Ty → Raw → Term → Ty → Type 0
Elaborates C (raw_index i) t A = (t ≡ index i) × (slice_get C i ≡ Some A)
Elaborates C (raw_constant c s) t A = (ts : List Ty) × (t ≡ atom (constant c ts)) × (length ts ≡ s.count) × (A ≡ instance (type_at ts) s.body)
Elaborates C (raw_integer z) t A = (t ≡ atom (integer z)) × (A ≡ int_type)
Elaborates C (raw_text s) t A = (t ≡ atom (text s)) × (A ≡ string_type)
Elaborates C (raw_abs given b) t A =
    (s : Term) × (t ≡ abs s) × (P : Ty) × (R : Ty) × (A ≡ arrow P R) × IsGiven given P × Elaborates (P ∷ C) b s R
Elaborates C (raw_app f u) t A =
    (g : Term) × (v : Term) × (t ≡ app g v) × (P : Ty) × Elaborates C f g (arrow P A) × Elaborates C u v P

-- the type arguments of the constants left out
abbrev pub Leaves : Term → Raw → Type 0
Leaves t (raw_index i) = t ≡ index i
Leaves t (raw_constant c s) = (ts : List Ty) × (t ≡ atom (constant c ts))
Leaves t (raw_integer z) = t ≡ atom (integer z)
Leaves t (raw_text s) = t ≡ atom (text s)
Leaves t (raw_abs given b) = (s : Term) × (t ≡ abs s) × Leaves s b
Leaves t (raw_app f u) = (g : Term) × (v : Term) × (t ≡ app g v) × Leaves g f × Leaves v u

-- the declared types of the constants of a text
abbrev pub AreDeclared : (ℕ → Option Scheme) → Raw → Type 0
AreDeclared d (raw_constant c s) = d c ≡ Some s
AreDeclared d (raw_abs given b) = AreDeclared d b
AreDeclared d (raw_app f u) = AreDeclared d f × AreDeclared d u
AreDeclared d _ = Unit {0}

-- a formula with the types of its free indices, that of index 0 first
pub record Typing : Type 0 where
  pub free : List Ty
  pub formula : Term

abbrev pub instance_atom : (ℕ → Ty) → Atom → Atom
instance_atom θ (constant c ts) = constant c (map (instance θ) ts)
instance_atom θ (integer z) = integer z
instance_atom θ (text s) = text s
instance_atom θ (eigen k) = eigen k
instance_atom θ (logic id level) = logic id level
instance_atom θ (param k T) = param k (instance θ T)

-- a term with types for its type variables
abbrev pub instance_term : (ℕ → Ty) → Term → Term
instance_term θ (index i) = index i
instance_term θ (atom a) = atom (instance_atom θ a)
instance_term θ (abs b) = abs (instance_term θ b)
instance_term θ (app t u) = app (instance_term θ t) (instance_term θ u)

abbrev pub put_typing : (ℕ → Ty) → Typing → Typing
put_typing θ T = record { free = map (instance θ) T.free; formula = instance_term θ T.formula }

-- a typing of a text with so many variables; the type variables of the types that are written have types, the same in the whole text
pub record IsTyping (R : Raw) (names : ℕ) (T : Typing) : Type 0 where
  pub many : length T.free ≡ names
  pub notes : ℕ → Ty
  pub elaborates : Elaborates T.free (put_raw notes R) T.formula o_type

-- a typing that becomes every other one when types are put for its type variables
pub record IsPrincipal (R : Raw) (names : ℕ) (T : Typing) : Type 0 where
  pub typing : IsTyping R names T
  pub first : (U : Typing) → IsTyping R names U → (θ : ℕ → Ty) × (map (instance θ) T.free ≡ U.free) × (instance_term θ T.formula ≡ U.formula)

abbrev pub HasNoTyping : Raw → ℕ → Type 0
HasNoTyping R names = (U : Typing) → IsTyping R names U → ⊥

-- the type arguments of the constants of a term, in order
abbrev pub atom_arguments : Atom → List Ty
atom_arguments (constant c ts) = ts
atom_arguments _ = []

abbrev pub term_arguments : Term → List Ty
term_arguments (index i) = []
term_arguments (atom a) = atom_arguments a
term_arguments (abs b) = term_arguments b
term_arguments (app t u) = term_arguments t ++ term_arguments u
