-- A typed branch: the constant at the head of the goal in front has as many types as it takes, and so have the heads of the clauses that are assumed there, which name their clauses.
use Rattle.std.proofs.Common.{◌≡◌, Bool, true, false, ℕ, List, [], ◌∷◌, length, Option, Some, None, refl, sym, subst, nat_eq}
use Rattle.std.specs.Prelude.{if◌then◌else◌}
use Rattle.lp_calculus.specs.Closed.{AllAtoms}
use Rattle.lp_calculus.specs.Spine.{head_of}
use Rattle.lp_calculus.specs.Types.{Ty, arrow}
use Rattle.lp_calculus.specs.Term.{Term, Atom, index, atom, abs, app, constant, integer, text, eigen, logic, param}
use Rattle.lp_calculus.specs.Typing.{HasType, Scheme, atom_type, o_type, scheme_type}
use Rattle.lp_lemmas.specs.Each.{EachOf}
use Rattle.lp_model.specs.Answers.{Variable, over}
use Rattle.lp_model.specs.Branch.{Branch, Entry, Go, Task}
use Rattle.lp_standard.specs.Connectives.{pi_of, two}
use Rattle.lp_standard.specs.Numbers as number
use Rattle.lp_model.specs.Flat.{Atomic, Clause, all_of, clause, formula_of_clause, formula_of_goal, formula_of_goals, goals, no_goals}
use Rattle.lp_model.specs.Look.{head_normal}
use Rattle.lp_model.specs.Proofs.{Declared}
use Rattle.lp_model.specs.Skeleton.{State}
use Rattle.lp_unify_laws.proofs.Looks.{head_reduces}
use Rattle.lp_unify_laws.proofs.Sames.{same_number}
use Rattle.lp_unify_laws.proofs.TypedBindings.{HasAtomType}
use Rattle.lp_search_laws.specs.Branches.{ArePlainEntries, AreTypedEntries, IsPlainEntry, IsTypedEntry}
use Rattle.lp_search_laws.specs.Holds.{IsTyped}
use Rattle.lp_search_laws.proofs.AtomsKept.{atoms_reduces}
use Rattle.lp_plain.specs.ProgramClauses.{arity_in, count_of}
use Rattle.lp_plain.specs.Trying.{AreApplied, HasArity, head_in}
use Rattle.lp_plain.specs.TypedStates.{IsTaskTyped, IsTypedOver}

-- entries in front
front_typed : (d : Declared) (V : List Variable) (Es : List (List Ty)) (e : Entry) (es : List Entry) → AreTypedEntries d V Es (e ∷ es) → (E : List Ty) × IsTypedEntry d V E e
front_typed d V [] e es h = absurd h
front_typed d V (E ∷ Es) e es h = (E, h.0)

front_plain : (k : ℕ) (Es : List (List Ty)) (e : Entry) (es : List Entry) → ArePlainEntries k Es (e ∷ es) → (E : List Ty) × IsPlainEntry k E e
front_plain k [] e es h = absurd h
front_plain k (E ∷ Es) e es h = (E, h.0)

-- each atom of a typed term has a type
atoms_typed : (τ : Atom → Option Ty) (C : List Ty) (t : Term) (T : Ty) → HasType τ C t T → AllAtoms (HasAtomType τ) t
atoms_typed τ C (index i) T w = tt
atoms_typed τ C (atom a) T w = (T, w)
atoms_typed τ C (abs b) T w = atoms_typed τ (w.0 ∷ C) b w.1 w.3
atoms_typed τ C (app t u) T w = (atoms_typed τ C t (arrow w.0 T) w.1, atoms_typed τ C u w.0 w.2)

head_atoms : (P : Atom → Type 0) (t : Term) → AllAtoms P t → AllAtoms P (head_of t)
head_atoms P (index i) h = tt
head_atoms P (atom a) h = h
head_atoms P (abs b) h = h
head_atoms P (app f t) h = head_atoms P f h.0

all_atoms : (P : Atom → Type 0) (vs : List Ty) (t : Term) → AllAtoms P (all_of vs t) → AllAtoms P t
all_atoms P [] t h = h
all_atoms P (T ∷ vs) t h = (all_atoms P vs (pi_of T (abs t)) h).1

module _ (d : Declared) (E : List Ty) (V : List Variable) where
  abbrev typed : Atom → Type 0
  typed a = HasAtomType (atom_type (over d E V)) a

  same_count : (b : Bool) (n m : ℕ) (x y : Ty) → nat_eq n m ≡ b → (if b then Some x else None) ≡ Some y → n ≡ m
  same_count true n m x y e h = same_number n m e
  same_count false n m x y e h = absurd (cc)

  by_scheme : (ts : List Ty) (o : Option Scheme) (T : Ty) → scheme_type ts o ≡ Some T → length ts ≡ count_of o
  by_scheme ts None T e = absurd (cc)
  by_scheme ts (Some s) T e = same_count (nat_eq (length ts) s.count) (length ts) s.count _ T refl e

  head_many : (t : Term) → AllAtoms typed t → HasArity (arity_in d) t
  head_many (index i) h = tt
  head_many (atom (constant c ts)) h = by_scheme ts (d c) h.0 h.1
  head_many (atom (integer z)) h = tt
  head_many (atom (text s)) h = tt
  head_many (atom (eigen k)) h = tt
  head_many (atom (logic x l)) h = tt
  head_many (atom (param k T)) h = tt
  head_many (abs b) h = tt
  head_many (app f t) h = tt

  clause_many : (c : Clause) → IsTyped d E V (formula_of_clause c) o_type → HasArity (arity_in d) (head_in c)
  clause_many (clause n vs h no_goals) w = head_many (head_of h) (head_atoms typed h (all_atoms typed vs h (atoms_typed (atom_type (over d E V)) [] (all_of vs h) o_type w.typed)))
  clause_many (clause n vs h (goals g gs)) w =
      head_many (head_of h) (head_atoms typed h (all_atoms typed vs (two number.Implies [] (formula_of_goals (goals g gs)) h) (atoms_typed (atom_type (over d E V)) [] (formula_of_clause (clause n vs h (goals g gs))) o_type w.typed)).1)

  clauses_many : (cs : List Clause) → EachOf (λ c. IsTyped d E V (formula_of_clause c) o_type) cs → AreApplied (arity_in d) cs
  clauses_many [] w = tt
  clauses_many (c ∷ cs) w = (clause_many c w.0, clauses_many cs w.1)

-- of the entry in front
module _ (arity : ℕ → ℕ) (n : ℕ) (P : List Clause) (s : State Task) (ty : IsTypedOver arity n P s) (b : Branch) (rest : List Task)
    (stack : s.stack ≡ Go b ∷ rest) (e : Entry) (es : List Entry) (first : b.goals ≡ e ∷ es) where
  pub branch_typed : IsTaskTyped n ty.declared P ty.query (Go b)
  branch_typed = (subst (EachOf (IsTaskTyped n ty.declared P ty.query)) stack ty.typed).0

  pub entry_typed : (E : List Ty) × IsTypedEntry ty.declared branch_typed.0.answer.variables E e
  entry_typed =
      let w = branch_typed in
      front_typed ty.declared w.0.answer.variables w.0.eigens e es (subst (AreTypedEntries ty.declared w.0.answer.variables w.0.eigens) first w.1.entries)

  pub entry_plain : (E : List Ty) × IsPlainEntry b.next_type E e
  entry_plain = let w = branch_typed in front_plain b.next_type w.0.eigens e es (subst (ArePlainEntries b.next_type w.0.eigens) first w.1.goals)

  -- where it is known at run time, as it was looked at
  pub front_arity : (t u : Term) (m : ℕ) → e.goal ≡ Atomic t → head_normal m t ≡ Some u → HasArity arity (head_of u)
  front_arity t u m g h =
      let V = branch_typed.0.answer.variables in
      let w = entry_typed in
      let a = subst (λ x. IsTyped ty.declared w.0 V (formula_of_goal x) o_type) g w.1.goal in
      let all = atoms_typed (atom_type (over ty.declared w.0 V)) [] t o_type a.typed in
      let now = atoms_reduces (HasAtomType (atom_type (over ty.declared w.0 V))) (head_reduces m t u h) all in
      subst (λ f. HasArity f (head_of u)) (sym ty.takes) (head_many ty.declared w.0 V (head_of u) (head_atoms (HasAtomType (atom_type (over ty.declared w.0 V))) u now))

  pub front_applied : AreApplied arity e.assumed
  front_applied = subst (λ f. AreApplied f e.assumed) (sym ty.takes) (clauses_many ty.declared entry_typed.0 branch_typed.0.answer.variables e.assumed entry_typed.1.assumed)
