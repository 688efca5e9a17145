-- What a goal says under a closing, and what stands in its place where it is taken apart.
use Rattle.std.specs.Prelude.{ℕ, suc, nat_eq, false, ◌&&◌, if◌then◌else◌, ◌⊎◌, ◌≡◌, List, [], ◌∷◌, ◌++◌, length, map}
use Rattle.lp_calculus.specs.Types.{Ty, instance}
use Rattle.lp_calculus.specs.Term.{Term, Atom, atom, substitute, constant, integer, text, eigen, logic, param}
use Rattle.lp_calculus.specs.Fill.{Within}
use Rattle.lp_model.specs.Pair.{Pair, Closing, closed, SolvesAll}
use Rattle.lp_model.specs.Unify.{State}
use Rattle.lp_model.specs.Answers.{Variable, over, IsScopedAtom, Closes}
use Rattle.lp_calculus.specs.Typing.{Typed}
use Rattle.lp_calculus.specs.Instance.{instance_term}
use Rattle.lp_unify_laws.specs.Solutions.{at_types, instance_binding, through_bindings, KeepsTypings, KeptClosing}
use Rattle.lp_model.specs.Flatten.{ClauseFormula}
use Rattle.lp_model.specs.Flat.{Goal, Atomic, Cut, Either, Exists, Forall, Assume, Not, formula_of_goals, formula_of_clauses}
use Rattle.lp_model.specs.Proofs.{Declared, IsWitness, IsFormula, assumed, Leaves, ProvableBy}
use Rattle.lp_standard.specs.Connectives.{two, not_of, Connective}
use Rattle.lp_standard.specs.Connectives as connective

-- the term is provable as the closing makes it; E are the types of the eigenconstants
abbrev pub Holds : Leaves → Declared → (E : List Ty) → (P : List ClauseFormula) → Closing → Term → Type 0
Holds L d E P c t = ProvableBy L d E P (closed c t)

-- the closing with another term for one variable
abbrev pub with_value : Closing → (x l : ℕ) → Term → Closing
with_value c x l w = record { types = c.types; terms = λ y m. if nat_eq y x && nat_eq m l then w else c.terms y m }

-- the variable does not stand in the term
abbrev pub IsOther : (x l : ℕ) → Atom → Type 0
IsOther x l (logic y m) = (nat_eq y x && nat_eq m l) ≡ false
IsOther x l (constant c ts) = Unit {0}
IsOther x l (integer z) = Unit {0}
IsOther x l (text s) = Unit {0}
IsOther x l (eigen k) = Unit {0}
IsOther x l (param k T) = Unit {0}

abbrev pub IsUnused : (x l : ℕ) → Term → Type 0
IsUnused x l t = Within (IsOther x l) 0 t

-- the next eigenconstant
abbrev pub next_eigen : List Ty → Term
next_eigen E = atom (eigen (suc (length E)))

-- a form that the search takes apart, under a closing: x of level l is the variable that a `sigma` gets
abbrev pub FormHolds : Leaves → Declared → (E : List Ty) → (P : List ClauseFormula) → Closing → (x l : ℕ) → Connective → Type 0
FormHolds L d E P c x l connective.True = Unit {0}
FormHolds L d E P c x l (connective.And a b) = Holds L d E P c a × Holds L d E P c b
FormHolds L d E P c x l (connective.Or a b) = Holds L d E P c a ⊎ Holds L d E P c b
FormHolds L d E P c x l (connective.ForAll T s) = Holds L d (E ++ instance c.types T ∷ []) P c (substitute (next_eigen E) s)
FormHolds L d E P c x l (connective.Exists T s) = (w : Term) × IsWitness d E w (instance c.types T) × Holds L d E P (with_value c x l w) (substitute (atom (logic x l)) s)
FormHolds L d E P c x l connective.Cut = ⊥
FormHolds L d E P c x l (connective.Implies a b) = ⊥
FormHolds L d E P c x l (connective.Not g) = ⊥
FormHolds L d E P c x l connective.Atomic = ⊥

-- the forms that are taken apart
abbrev pub IsTakenApart : Connective → Type 0
IsTakenApart connective.True = Unit {0}
IsTakenApart (connective.And a b) = Unit {0}
IsTakenApart (connective.Or a b) = Unit {0}
IsTakenApart (connective.ForAll T s) = Unit {0}
IsTakenApart (connective.Exists T s) = Unit {0}
IsTakenApart connective.Cut = ⊥
IsTakenApart (connective.Implies a b) = ⊥
IsTakenApart (connective.Not g) = ⊥
IsTakenApart connective.Atomic = ⊥

-- a flattened goal that is taken apart, by the formulas of its parts
abbrev pub GoalHolds : Leaves → Declared → (E : List Ty) → (P : List ClauseFormula) → Closing → (x l : ℕ) → Goal → Type 0
GoalHolds L d E P c x l (Atomic t) = Holds L d E P c t
GoalHolds L d E P c x l Cut = Unit {0}
GoalHolds L d E P c x l (Either gs hs) = Holds L d E P c (formula_of_goals gs) ⊎ Holds L d E P c (formula_of_goals hs)
GoalHolds L d E P c x l (Forall T gs) = Holds L d (E ++ instance c.types T ∷ []) P c (substitute (next_eigen E) (formula_of_goals gs))
GoalHolds L d E P c x l (Exists T gs) = (w : Term) × IsWitness d E w (instance c.types T) × Holds L d E P (with_value c x l w) (substitute (atom (logic x l)) (formula_of_goals gs))
GoalHolds L d E P c x l (Not ws gs) = Holds L d E P c (not_of (formula_of_goals gs))
GoalHolds L d E P c x l (Assume ws cs gs) = Holds L d E (P ++ assumed (closed c (formula_of_clauses cs)) ∷ []) c (formula_of_goals gs)

abbrev pub equation : (l r : Term) → (level : ℕ) → List Pair
equation l r k = record { left = l; right = r; level = k } ∷ []

abbrev pub equality : Ty → (l r : Term) → Term
equality T l r = two 8 (T ∷ []) l r

-- an equality through the unifier, with the types θ put in: what is left is typed over one list of variables, and its closings that solve the
-- residual pairs are, through the bindings, those that solve the pairs of before and make the equality hold
pub record EqualityHolds (L : Leaves) (θ : ℕ → Ty) (d : Declared) (V : List Variable) (E : List Ty) (P : List ClauseFormula) (T : Ty) (l r : Term) (ds : List Pair) (s : State) : Type 0 where
  pub typings : KeepsTypings θ d V s
  pub keeps : (c : Closing) → Closes d V c → SolvesAll c (at_types θ ds) → IsFormula d E (closed c (instance_term θ (equality T l r))) → Holds L d E P c (instance_term θ (equality T l r)) → KeptClosing d V typings.after c (map (instance_binding θ) s.bindings) (at_types θ s.delayed)
  pub gives : (c : Closing) → Closes d typings.after c → SolvesAll c (at_types θ s.delayed) → IsFormula d E (closed (through_bindings (map (instance_binding θ) s.bindings) c) (instance_term θ (equality T l r))) →
      Holds L d E P (through_bindings (map (instance_binding θ) s.bindings) c) (instance_term θ (equality T l r)) × SolvesAll (through_bindings (map (instance_binding θ) s.bindings) c) (at_types θ ds)

-- a term of a type over the variables V, at the eigenconstants E
pub record IsTyped (d : Declared) (E : List Ty) (V : List Variable) (t : Term) (T : Ty) : Type 0 where
  pub typed : Typed (over d E V) [] t T
  pub scoped : Within (IsScopedAtom V E) 0 t

-- a goal that holds exactly where another one does
pub record IsSameGoal (L : Leaves) (d : Declared) (E : List Ty) (P : List ClauseFormula) (c : Closing) (t u : Term) : Type 0 where
  pub fine : IsFormula d E (closed c u)
  pub to : Holds L d E P c t → Holds L d E P c u
  pub from : Holds L d E P c u → Holds L d E P c t
