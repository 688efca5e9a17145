-- Pattern terms (Miller 1991, "A logic programming language with lambda-abstraction, function variables, and simple unification"), before they are reduced: each
-- logic variable stands on distinct bound indices and eigenconstants that are new to it.
use Rattle.std.specs.Prelude.{◌≡◌, ℕ, suc, ◌<◌, List, [], ◌∷◌}
use Rattle.lp_calculus.specs.Term.{Term, index, atom, abs, app, Atom, constant, integer, text, eigen, logic, param}
use Rattle.lp_calculus.specs.Convert.{ReducesTo}
use Rattle.lp_model.specs.Pair.{Pair}

-- a universal variable: the index of an abstraction around, or an eigenconstant
pub data Name : Type 0 where
  bound : ℕ → Name
  free : ℕ → Name

-- it below one more abstraction
abbrev pub under : Name → Name
under (bound i) = bound (suc i)
under (free k) = free k

-- the name is not this index, nor this atom, nor an eigenconstant that the values of this variable may have
abbrev pub IsNewToIndex : Name → ℕ → Type 0
IsNewToIndex (bound j) i = i ≡ j → ⊥
IsNewToIndex (free k) i = Unit {0}

abbrev pub IsNewToAtom : Name → Atom → Type 0
IsNewToAtom (bound j) a = Unit {0}
IsNewToAtom (free k) (eigen j) = j ≡ k → ⊥
IsNewToAtom (free k) (logic x l) = l < k
IsNewToAtom (free k) (constant c ts) = Unit {0}
IsNewToAtom (free k) (integer z) = Unit {0}
IsNewToAtom (free k) (text s) = Unit {0}
IsNewToAtom (free k) (param i T) = Unit {0}

-- the name stands nowhere in the term, nor in what values of its variables may have
abbrev pub IsNewTo : Name → Term → Type 0
IsNewTo n (index i) = IsNewToIndex n i
IsNewTo n (atom a) = IsNewToAtom n a
IsNewTo n (abs b) = IsNewTo (under n) b
IsNewTo n (app t u) = IsNewTo n t × IsNewTo n u

-- the term is the name, up to eta
pub data Names : Name → Term → Type 0 where
  an_index : (i : ℕ) → Names (bound i) (index i)
  an_eigen : (k : ℕ) → Names (free k) (atom (eigen k))
  expanded : {n : Name} {f u : Term} → Names (under n) f → Names (bound 0) u → Names n (abs (app f u))

-- no logic variable
abbrev pub IsRigidAtom : Atom → Type 0
IsRigidAtom (logic x l) = ⊥
IsRigidAtom (constant c ts) = Unit {0}
IsRigidAtom (integer z) = Unit {0}
IsRigidAtom (text s) = Unit {0}
IsRigidAtom (eigen k) = Unit {0}
IsRigidAtom (param i T) = Unit {0}

-- the head is a name, up to eta, or an atom that is no logic variable
pub data IsRigid : Term → Type 0 where
  rigid_atom : (a : Atom) → IsRigidAtom a → IsRigid (atom a)
  rigid_name : {n : Name} {t : Term} → Names n t → IsRigid t
  rigid_on : {t u : Term} → IsRigid t → IsRigid (app t u)

-- what has a rigid head may stand on any such term, and all others on a name that is new to them
pub data IsPatternTerm : Term → Type 0 where
  of_index : (i : ℕ) → IsPatternTerm (index i)
  of_atom : (a : Atom) → IsPatternTerm (atom a)
  of_abs : {b : Term} → IsPatternTerm b → IsPatternTerm (abs b)
  rigid : {t u : Term} → IsRigid t → IsPatternTerm t → IsPatternTerm u → IsPatternTerm (app t u)
  on_name : {n : Name} {t u : Term} → IsPatternTerm t → Names n u → IsNewTo n t → IsPatternTerm (app t u)

-- a term that reduces to such a term
pub record IsPattern (t : Term) : Type 0 where
  pub form : Term
  pub reduces : ReducesTo t form
  pub pattern : IsPatternTerm form

-- pairs of terms that reduce to such terms
abbrev pub ArePatternPairs : List Pair → Type 0
ArePatternPairs [] = Unit {0}
ArePatternPairs (p ∷ ps) = (IsPattern p.left × IsPattern p.right) × ArePatternPairs ps
