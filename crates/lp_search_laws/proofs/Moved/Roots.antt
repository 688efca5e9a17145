-- What is written in a program has no eigenconstant and no logic variable: it stays as it is with other ones.
use Rattle.std.proofs.Common.{◌≡◌, ℕ, zero, suc, List, [], ◌∷◌, map, refl, sym, ap, subst, inl, inr, Option, Some}
use Rattle.lp_lemmas.specs.Each.{EachOf}
use Rattle.lp_calculus.specs.Types.{Ty}
use Rattle.lp_calculus.specs.Term.{Term, Atom, index, atom, abs, app, constant, integer, text, eigen, logic, param, shift, replace, raised}
use Rattle.lp_calculus.specs.Typing.{HasType, Typed, atom_type}
use Rattle.lp_calculus.specs.Closed.{AllAtoms}
use Rattle.lp_calculus.specs.Fill.{fill}
use Rattle.lp_calculus.specs.Instance.{instance_term, instance_atom}
use Rattle.lp_calculus.proofs.Eta.{app_same}
use Rattle.lp_standard.specs.Connectives.{pi_of, two}
use Rattle.lp_model.specs.Flat.{Goal, Atomic, Cut, Either, Exists, Forall, Assume, Not, Goals, no_goals, goals, Clause, clause, Clauses, no_clauses, clauses, clause_list, all_of, under_all, formula_of_goal, formula_of_goals, formula_of_clause, formula_of_clauses}
use Rattle.lp_model.specs.Variables.{over}
use Rattle.lp_model.specs.Proofs.{Declared, under}
use Rattle.lp_proof_laws.specs.Terms.{AreTermsOf, IsClauseOf, AreClausesOf}
use Rattle.lp_proof_laws.proofs.Flattened.TypedForms.{goals_same, clauses_same, clause_same, either_same, assume_same, denied_same, written_same}
use Rattle.lp_search_laws.specs.Branches.{IsProgramTyped}
use Rattle.lp_search_laws.specs.Written.{StandsIn, StandsInOne, IsWrittenGoal, AreWrittenGoals, IsWrittenClause, AreWrittenClauses}
use Rattle.lp_search_laws.proofs.FormulaAtoms.{goals_atoms, clause_atoms, clauses_atoms}
use Rattle.lp_search_laws.proofs.Moved.Terms.{Moving, moved, moved_atom}
use Rattle.lp_search_laws.proofs.Moved.Goals.{moved_goal_at, moved_goals_at, moved_clause_at, moved_clauses_at, moved_clause}
use Rattle.lp_search_laws.proofs.Moved.Candidates.{same_types}

-- no eigenconstant and no logic variable
abbrev pub IsRootAtom : Atom → Type 0
IsRootAtom (constant c ts) = Unit {0}
IsRootAtom (integer z) = Unit {0}
IsRootAtom (text s) = Unit {0}
IsRootAtom (eigen k) = ⊥
IsRootAtom (logic x l) = ⊥
IsRootAtom (param k T) = Unit {0}

abbrev pub IsRoot : Term → Type 0
IsRoot t = AllAtoms IsRootAtom t

-- what is typed where there are none has none
typed_root : (τ : Atom → Option Ty) → ((k : ℕ) (T : Ty) → τ (eigen k) ≡ Some T → ⊥) → ((x l : ℕ) (T : Ty) → τ (logic x l) ≡ Some T → ⊥) → (C : List Ty) (t : Term) (T : Ty) → HasType τ C t T → IsRoot t
typed_root τ e v C (index i) T w = tt
typed_root τ e v C (atom (constant c ts)) T w = tt
typed_root τ e v C (atom (integer z)) T w = tt
typed_root τ e v C (atom (text s)) T w = tt
typed_root τ e v C (atom (eigen k)) T w = e k T w
typed_root τ e v C (atom (logic x l)) T w = v x l T w
typed_root τ e v C (atom (param k U)) T w = tt
typed_root τ e v C (abs b) T w = typed_root τ e v (w.0 ∷ C) b w.1 w.3
typed_root τ e v C (app t u) T w = (typed_root τ e v C t _ w.1, typed_root τ e v C u _ w.2)

no_eigen : (d : Declared) (k : ℕ) (T : Ty) → atom_type (under d []) (eigen k) ≡ Some T → ⊥
no_eigen d zero T e = absurd (cc)
no_eigen d (suc k) T e = absurd (cc)

pub under_root : (d : Declared) (C : List Ty) (t : Term) (T : Ty) → Typed (under d []) C t T → IsRoot t
under_root d C t T w = typed_root (atom_type (under d [])) (no_eigen d) (λ x l U e. absurd (cc)) C t T w

no_variable : (d : Declared) (x l : ℕ) (T : Ty) → atom_type (over d [] []) (logic x l) ≡ Some T → ⊥
no_variable d zero l T e = absurd (cc)
no_variable d (suc x) l T e = absurd (cc)

no_over : (d : Declared) (k : ℕ) (T : Ty) → atom_type (over d [] []) (eigen k) ≡ Some T → ⊥
no_over d zero T e = absurd (cc)
no_over d (suc k) T e = absurd (cc)

pub over_root : (d : Declared) (t : Term) (T : Ty) → Typed (over d [] []) [] t T → IsRoot t
over_root d t T w = typed_root (atom_type (over d [] [])) (no_over d) (no_variable d) [] t T w

root_before : (θ : ℕ → Ty) (a : Atom) → IsRootAtom (instance_atom θ a) → IsRootAtom a
root_before θ (constant c ts) w = tt
root_before θ (integer z) w = tt
root_before θ (text s) w = tt
root_before θ (eigen k) w = w
root_before θ (logic x l) w = w
root_before θ (param k T) w = tt

pub before_types : (θ : ℕ → Ty) (t : Term) → IsRoot (instance_term θ t) → IsRoot t
before_types θ (index i) w = tt
before_types θ (atom a) w = root_before θ a w
before_types θ (abs b) w = before_types θ b w
before_types θ (app t u) w = (before_types θ t w.0, before_types θ u w.1)

-- such terms stay as they are, whatever other eigenconstants and logic variables become
pub root_stays : (g : Atom → Atom) → ((a : Atom) → IsRootAtom a → g a ≡ a) → (t : Term) → IsRoot t → fill (λ a. atom (g a)) t ≡ t
root_stays g h (index i) w = refl
root_stays g h (atom a) w = ap atom (h a w)
root_stays g h (abs b) w = ap abs (root_stays g h b w)
root_stays g h (app t u) w = app_same (root_stays g h t w.0) (root_stays g h u w.1)

moved_root : (m : Moving) (a : Atom) → IsRootAtom a → moved_atom m a ≡ a
moved_root m (constant c ts) w = refl
moved_root m (integer z) w = refl
moved_root m (text s) w = refl
moved_root m (eigen k) w = absurd w
moved_root m (logic x l) w = absurd w
moved_root m (param k T) w = refl

stays : (m : Moving) (t : Term) → IsRoot t → moved m t ≡ t
stays m t w = root_stays (moved_atom m) (moved_root m) t w

-- formulas of goals have no other atoms
pub goals_root : (gs : Goals) → AreTermsOf IsRoot gs → IsRoot (formula_of_goals gs)
goals_root gs h = goals_atoms IsRootAtom (λ c ts. tt) gs h

pub clause_root : (c : Clause) → IsClauseOf IsRoot c → IsRoot (formula_of_clause c)
clause_root c h = clause_atoms IsRootAtom (λ c ts. tt) c h

pub clauses_root : (cs : Clauses) → AreClausesOf IsRoot cs → IsRoot (formula_of_clauses cs)
clauses_root cs h = clauses_atoms IsRootAtom (λ c ts. tt) cs h

-- and back
root_inside : (vs : List Ty) (t : Term) → IsRoot (all_of vs t) → IsRoot t
root_inside [] t w = w
root_inside (v ∷ vs) t w = (root_inside vs (pi_of v (abs t)) w).1

unshift_at : (by d : ℕ) (t : Term) → IsRoot (replace (raised by) d t) → IsRoot t
unshift_at by d (index i) w = tt
unshift_at by d (atom a) w = w
unshift_at by d (abs b) w = unshift_at by (suc d) b w
unshift_at by d (app t u) w = (unshift_at by d t w.0, unshift_at by d u w.1)

part_root : (t u : Term) → StandsIn t u → IsRoot u → IsRoot t
part_root t (index i) s w = subst IsRoot (sym s) w
part_root t (atom a) s w = subst IsRoot (sym s) w
part_root t (abs b) (inl e) w = subst IsRoot (sym e) w
part_root t (abs b) (inr s) w = unshift_at 1 0 t (part_root (shift 0 1 t) b s w)
part_root t (app f a) (inl e) w = subst IsRoot (sym e) w
part_root t (app f a) (inr (inl s)) w = part_root t f s w.0
part_root t (app f a) (inr (inr s)) w = part_root t a s w.1

parts_stay : (m : Moving) (u : Term) → IsRoot u → (ts : List Term) → EachOf (λ t. StandsIn t u) ts → map (moved m) ts ≡ ts
parts_stay m u w [] h = refl
parts_stay m u w (t ∷ ts) h = λ i. stays m t (part_root t u h.0 w) i ∷ parts_stay m u w ts h.1 i

one_root : (cs : Clauses) → IsRoot (formula_of_clauses cs) → (t : Term) → StandsInOne (clause_list cs) t → IsRoot t
one_root no_clauses w t s = absurd s
one_root (clauses c no_clauses) w t (inl s) = part_root t (formula_of_clause c) s w
one_root (clauses c no_clauses) w t (inr s) = absurd s
one_root (clauses c (clauses e cs)) w t (inl s) = part_root t (formula_of_clause c) s w.0.1
one_root (clauses c (clauses e cs)) w t (inr s) = one_root (clauses e cs) w.1 t s

ones_stay : (m : Moving) (cs : Clauses) → IsRoot (formula_of_clauses cs) → (ts : List Term) → EachOf (StandsInOne (clause_list cs)) ts → map (moved m) ts ≡ ts
ones_stay m cs w [] h = refl
ones_stay m cs w (t ∷ ts) h = λ i. stays m t (one_root cs w t h.0) i ∷ ones_stay m cs w ts h.1 i

mutual
  goal_stays : (m : Moving) (u : ℕ) (g : Goal) → IsRoot (formula_of_goal g) → IsWrittenGoal g → moved_goal_at m u g ≡ g
  goal_stays m u (Atomic t) w h = ap Atomic (stays m t w)
  goal_stays m u Cut w h = refl
  goal_stays m u (Either l r) w h = either_same (goals_stay m u l w.0.1 h.0) (goals_stay m u r w.1 h.1)
  goal_stays m u (Exists T gs) w h = ap (Exists T) (goals_stay m u gs w.1 h)
  goal_stays m u (Forall T gs) w h = ap (Forall T) (goals_stay m u gs w.1 h)
  goal_stays m u (Assume v cs gs) w h = assume_same (written_same (ones_stay m cs w.0.1 v.terms h.0) (same_types v.types)) (clauses_stay m u cs w.0.1 h.1) (goals_stay m u gs w.1 h.2)
  goal_stays m u (Not v gs) w h = denied_same (written_same (parts_stay m (formula_of_goals gs) w.1 v.terms h.0) (same_types v.types)) (goals_stay m u gs w.1 h.1)

  goals_stay : (m : Moving) (u : ℕ) (gs : Goals) → IsRoot (formula_of_goals gs) → AreWrittenGoals gs → moved_goals_at m u gs ≡ gs
  goals_stay m u no_goals w h = refl
  goals_stay m u (goals g no_goals) w h = ap (λ z. goals z no_goals) (goal_stays m u g w h.0)
  goals_stay m u (goals g (goals k gs)) w h = goals_same (goal_stays m u g w.0.1 h.0) (goals_stay m u (goals k gs) w.1 h.1)

  clause_stays : (m : Moving) (u : ℕ) (c : Clause) → IsRoot (formula_of_clause c) → IsWrittenClause c → moved_clause_at m u c ≡ c
  clause_stays m u (clause n vs x no_goals) w h = clause_same n (same_types vs) (stays m x (root_inside vs x w)) refl
  clause_stays m u (clause n vs x (goals g gs)) w h =
      let r = root_inside vs (two 2 [] (formula_of_goals (goals g gs)) x) w in
      clause_same n (same_types vs) (stays m x r.1) (goals_stay m (under_all (λ (v : ℕ). v) vs u) (goals g gs) r.0.1 h)

  clauses_stay : (m : Moving) (u : ℕ) (cs : Clauses) → IsRoot (formula_of_clauses cs) → AreWrittenClauses cs → moved_clauses_at m u cs ≡ cs
  clauses_stay m u no_clauses w h = refl
  clauses_stay m u (clauses c no_clauses) w h = ap (λ z. clauses z no_clauses) (clause_stays m u c w h.0)
  clauses_stay m u (clauses c (clauses e cs)) w h = clauses_same (clause_stays m u c w.0.1 h.0) (clauses_stay m u (clauses e cs) w.1 h.1)

pub program_root : (d : Declared) (c : Clause) → IsProgramTyped d c → IsRoot (formula_of_clause c)
program_root d c w = over_root d (formula_of_clause c) _ w.typed.typed

pub program_stays : (m : Moving) (d : Declared) (P : List Clause) → EachOf (IsProgramTyped d) P → map (moved_clause m) P ≡ P
program_stays m d [] w = refl
program_stays m d (c ∷ P) w = λ i. clause_stays m zero c (program_root d c w.0) w.0.written i ∷ program_stays m d P w.1 i
