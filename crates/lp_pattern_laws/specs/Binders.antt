-- Pattern text before its variables have got terms (Miller 1991, "A logic programming language with lambda-abstraction, function variables, and simple unification"):
-- each existential variable stands on distinct universal ones, which are bound below it. What terms the variables may get.
use Rattle.std.specs.Prelude.{◌≡◌, ℕ, ◌<◌, ◌≤◌, List, ◌∷◌, Option, Some, None, slice_get}
use Rattle.lp_calculus.specs.Term.{Term, index, atom, abs, app, Atom, constant, integer, text, eigen, logic, param}
use Rattle.lp_calculus.specs.Closed.{AllAtoms}
use Rattle.lp_calculus.specs.Fill.{Within}
use Rattle.lp_model.specs.Pair.{Closing}
use Rattle.lp_pattern_laws.specs.Patterns.{Name, bound, free, under, IsNewToIndex, IsNewToAtom, IsNewTo, Names, IsRigidAtom, IsPatternTerm}

-- what an index around a text stands for: what an abstraction or a `pi` binds, or a variable of a `sigma`, of a clause or of the query
pub data Binder : Type 0 where
  universal : Binder
  existential : Binder

-- the name is none that the variable at an index is, or may get: an existential one may get the names that are bound around it
abbrev pub IsNewAt : Option Binder → Name → ℕ → Type 0
IsNewAt None n i = ⊥
IsNewAt (Some universal) n i = IsNewToIndex n i
IsNewAt (Some existential) (bound j) i = j < i
IsNewAt (Some existential) (free k) i = ⊥

-- the name stands nowhere in the text, nor in what its variables may get
abbrev pub IsNewIn : (binders : List Binder) → Name → Term → Type 0
IsNewIn Γ n (index i) = IsNewAt (slice_get Γ i) n i
IsNewIn Γ n (atom a) = IsNewToAtom n a
IsNewIn Γ n (abs b) = IsNewIn (universal ∷ Γ) (under n) b
IsNewIn Γ n (app t u) = IsNewIn Γ n t × IsNewIn Γ n u

-- a universal variable, or an eigenconstant
abbrev pub IsUniversal : (binders : List Binder) → Name → Type 0
IsUniversal Γ (bound j) = slice_get Γ j ≡ Some universal
IsUniversal Γ (free k) = Unit {0}

-- the head is a universal variable, up to eta, or an atom that is no logic variable
pub data IsRigidIn (binders : List Binder) : Term → Type 0 where
  atom_head : (a : Atom) → IsRigidAtom a → IsRigidIn binders (atom a)
  name_head : {n : Name} {t : Term} → IsUniversal binders n → Names n t → IsRigidIn binders t
  more_on : {t u : Term} → IsRigidIn binders t → IsRigidIn binders (app t u)

-- what has a rigid head may stand on any such text, and all others on a universal variable that is new to them
pub data IsPatternIn : (binders : List Binder) → Term → Type 0 where
  index_in : {Γ : List Binder} {k : Binder} → (i : ℕ) → slice_get Γ i ≡ Some k → IsPatternIn Γ (index i)
  atom_in : {Γ : List Binder} → (a : Atom) → IsPatternIn Γ (atom a)
  abs_in : {Γ : List Binder} {b : Term} → IsPatternIn (universal ∷ Γ) b → IsPatternIn Γ (abs b)
  rigid_in : {Γ : List Binder} {t u : Term} → IsRigidIn Γ t → IsPatternIn Γ t → IsPatternIn Γ u → IsPatternIn Γ (app t u)
  name_in : {Γ : List Binder} {n : Name} {t u : Term} → IsUniversal Γ n → IsPatternIn Γ t → Names n u → IsNewIn Γ n t → IsPatternIn Γ (app t u)

-- what stands at a level
abbrev pub IsAtLevel : (level : ℕ) → Atom → Type 0
IsAtLevel l (eigen k) = k ≤ l
IsAtLevel l (logic x m) = m ≤ l
IsAtLevel l (constant c ts) = Unit {0}
IsAtLevel l (integer z) = Unit {0}
IsAtLevel l (text s) = Unit {0}
IsAtLevel l (param k T) = Unit {0}

-- a text at a level
abbrev pub IsPatternText : (level : ℕ) → (binders : List Binder) → Term → Type 0
IsPatternText l Γ t = IsPatternIn Γ t × AllAtoms (IsAtLevel l) t

-- an eigenconstant above the level for each universal variable, no two the same; and for each existential one a pattern term without the eigenconstants of the
-- variables that are bound below it
pub record IsOpening (level : ℕ) (binders : List Binder) (σ : ℕ → Term) : Type 0 where
  pub universals : (i : ℕ) → slice_get binders i ≡ Some universal → (k : ℕ) × (σ i ≡ atom (eigen k)) × (level < k)
  pub existentials : (i : ℕ) → slice_get binders i ≡ Some existential → IsPatternTerm (σ i)
  pub apart : (i j k : ℕ) → slice_get binders i ≡ Some universal → slice_get binders j ≡ Some universal → σ j ≡ atom (eigen k) → (i ≡ j → ⊥) → IsNewTo (free k) (σ i)
  pub new : (i j k : ℕ) → slice_get binders i ≡ Some existential → slice_get binders j ≡ Some universal → σ j ≡ atom (eigen k) → j < i → IsNewTo (free k) (σ i)

-- each logic variable gets a pattern term without variables and eigenconstants above its level, and with no loose index
abbrev pub HasPatternValues : Closing → Type 0
HasPatternValues c = (x l : ℕ) → IsPatternTerm (c.terms x l) × Within (IsAtLevel l) 0 (c.terms x l)
