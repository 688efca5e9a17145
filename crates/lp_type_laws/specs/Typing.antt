-- Raw terms, the typed formulas that leave them, and the principal one.
use Rattle.std.specs.Prelude.{◌≡◌, ℕ, suc, ◌<◌, List, ◌∷◌, map, length, Option, Some, None, slice_get, slice_index_or, ℤ}
use Rattle.lp_calculus.specs.Types.{Ty, var, con, arrow, no_types, instance}
use Rattle.lp_calculus.specs.Term.{Term, Atom, index, atom, abs, app, constant, integer, text, eigen, logic}
use Rattle.lp_calculus.specs.Term as term
use Rattle.lp_type_laws.specs.Equations.{Below}

-- a term as it was written, its names looked up; an index above those of the bound names is a free name
pub data Raw : Type 0 where
  raw_index : ℕ → Raw
  raw_constant : ℕ → Raw
  raw_integer : ℤ → Raw
  raw_text : List ℕ → Raw
  raw_abs : (given : Option Ty) → Raw → Raw
  raw_app : Raw → Raw → Raw

-- a declared type, with the number of its type variables, which are those below that number
pub record Scheme : Type 0 where
  pub count : ℕ
  pub body : Ty

abbrev pub o_type : Ty
o_type = con 0 no_types

abbrev pub int_type : Ty
int_type = con 1 no_types

abbrev pub text_type : Ty
text_type = con 2 no_types

abbrev pub type_at : List Ty → ℕ → Ty
type_at ts i = slice_index_or ts i (var 0)

-- types for the type variables of a constant, as many as declared, and its type with them
abbrev pub Instantiates : Scheme → List Ty → Ty → Type 0
Instantiates s ts A = (length ts ≡ s.count) × (A ≡ instance (type_at ts) s.body)

abbrev pub AtomHasType : (ℕ → Scheme) → Atom → Ty → Type 0
AtomHasType S (constant c ts) A = Instantiates (S c) ts A
AtomHasType S (integer z) A = A ≡ int_type
AtomHasType S (text s) A = A ≡ text_type
AtomHasType S (eigen k) A = ⊥
AtomHasType S (logic id level) A = ⊥
AtomHasType S (term.param k T) A = A ≡ T

-- a term has a type where each of its nodes can be given one; C has the types of the indices
abbrev pub HasType : (ℕ → Scheme) → List Ty → Term → Ty → Type 0
HasType S C (index i) A = slice_get C i ≡ Some A
HasType S C (atom a) A = AtomHasType S a A
HasType S C (abs b) A = (P : Ty) × (R : Ty) × (A ≡ arrow P R) × HasType S (P ∷ C) b R
HasType S C (app f u) A = (P : Ty) × HasType S C f (arrow P A) × HasType S C u P

-- leaving out the type arguments of the constants gives the raw term
abbrev pub Leaves : Term → Raw → Type 0
Leaves t (raw_index i) = t ≡ index i
Leaves t (raw_constant c) = (ts : List Ty) × (t ≡ atom (constant c ts))
Leaves t (raw_integer z) = t ≡ atom (integer z)
Leaves t (raw_text s) = t ≡ atom (text s)
Leaves t (raw_abs given b) = (s : Term) × (t ≡ abs s) × Leaves s b
Leaves t (raw_app f u) = (g : Term) × (v : Term) × (t ≡ app g v) × Leaves g f × Leaves v u

-- the type of a bound name is the annotated one, with types for the annotation's type variables
abbrev pub Fits : (ℕ → Ty) → Option Ty → Ty → Type 0
Fits κ None A = Unit {0}
Fits κ (Some given) A = A ≡ instance κ given

-- both at once, and each annotated bound name has its annotated type
abbrev pub Elaborates : (ℕ → Scheme) → (ℕ → Ty) → List Ty → Raw → Term → Ty → Type 0
Elaborates S κ C (raw_index i) t A = (t ≡ index i) × (slice_get C i ≡ Some A)
Elaborates S κ C (raw_constant c) t A = (ts : List Ty) × (t ≡ atom (constant c ts)) × Instantiates (S c) ts A
Elaborates S κ C (raw_integer z) t A = (t ≡ atom (integer z)) × (A ≡ int_type)
Elaborates S κ C (raw_text s) t A = (t ≡ atom (text s)) × (A ≡ text_type)
Elaborates S κ C (raw_abs given b) t A =
    (s : Term) × (t ≡ abs s) × (P : Ty) × (R : Ty) × (A ≡ arrow P R) × Fits κ given P × Elaborates S κ (P ∷ C) b s R
Elaborates S κ C (raw_app f u) t A =
    (g : Term) × (v : Term) × (t ≡ app g v) × (P : Ty) × Elaborates S κ C f g (arrow P A) × Elaborates S κ C u v P

-- a formula with the types of its free names
pub record Typing : Type 0 where
  pub vars : List Ty
  pub formula : Term

-- a typing of a raw text with so many free names; one replacement of the annotations' type variables serves it all
pub record IsTyping (S : ℕ → Scheme) (raw : Raw) (names : ℕ) (T : Typing) : Type 0 where
  pub many : length T.vars ≡ names
  pub notes : ℕ → Ty
  pub elaborates : Elaborates S notes T.vars raw T.formula o_type

abbrev pub instance_atom : (ℕ → Ty) → Atom → Atom
instance_atom θ (constant c ts) = constant c (map (instance θ) ts)
instance_atom θ (integer z) = integer z
instance_atom θ (text s) = text s
instance_atom θ (eigen k) = eigen k
instance_atom θ (logic id level) = logic id level
instance_atom θ (term.param k T) = term.param k (instance θ T)

-- a term with types for its type variables
abbrev pub instance_term : (ℕ → Ty) → Term → Term
instance_term θ (index i) = index i
instance_term θ (atom a) = atom (instance_atom θ a)
instance_term θ (abs b) = abs (instance_term θ b)
instance_term θ (app t u) = app (instance_term θ t) (instance_term θ u)

-- a typing that becomes every other one when types are put for its type variables
pub record IsPrincipal (S : ℕ → Scheme) (raw : Raw) (names : ℕ) (T : Typing) : Type 0 where
  pub typing : IsTyping S raw names T
  pub first : (U : Typing) → IsTyping S raw names U →
      (θ : ℕ → Ty) × (map (instance θ) T.vars ≡ U.vars) × (instance_term θ T.formula ≡ U.formula)

abbrev pub HasNoTyping : (ℕ → Scheme) → Raw → ℕ → Type 0
HasNoTyping S raw names = (U : Typing) → IsTyping S raw names U → ⊥

-- what the signature and the text owe

abbrev pub IsSignature : (ℕ → Scheme) → Type 0
IsSignature S = (c : ℕ) → Below (S c).count (S c).body

-- the indices are below n, and the annotations' type variables below k
abbrev pub NoteBelow : ℕ → Option Ty → Type 0
NoteBelow k None = Unit {0}
NoteBelow k (Some given) = Below k given

abbrev pub IsScoped : (n k : ℕ) → Raw → Type 0
IsScoped n k (raw_index i) = i < n
IsScoped n k (raw_constant c) = Unit {0}
IsScoped n k (raw_integer z) = Unit {0}
IsScoped n k (raw_text s) = Unit {0}
IsScoped n k (raw_abs given b) = NoteBelow k given × IsScoped (suc n) k b
IsScoped n k (raw_app f u) = IsScoped n k f × IsScoped n k u
