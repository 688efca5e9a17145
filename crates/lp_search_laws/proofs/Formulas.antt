-- Entries behind a unification: bindings and types put into goals and clauses are put into their formulas, and under closings that lead
-- through them terms convert, so each entry is provable exactly where it was.
use Rattle.std.proofs.Common.{◌≡◌, ℕ, List, [], ◌∷◌, map, ◌∙◌, refl, sym, ap}
use mathlib.Core.Path.{fun_ext}
use Rattle.lp_calculus.specs.Types.{Ty, instance}
use Rattle.lp_calculus.specs.Term.{Term, atom, abs, app, shift, constant}
use Rattle.lp_calculus.specs.Fill.{Binding, fill, put}
use Rattle.lp_calculus.specs.Instance.{instance_term}
use Rattle.lp_standard.specs.Numbers as number
use Rattle.lp_standard.specs.Connectives.{not_of, two, pi_of}
use Rattle.lp_model.specs.Flat.{Goal, Atomic, Cut, Either, Exists, Forall, Assume, Not, Goals, no_goals, goals, Clause, clause, Clauses, no_clauses, clauses, under_all, map_goal, map_goals, map_clause, map_clauses, same_type, all_of, formula_of_goal, formula_of_goals, formula_of_clause, formula_of_clauses}
use Rattle.lp_proof_laws.proofs.Flattened.Filled.{one_shut}
use Rattle.lp_search_laws.proofs.Opened.{map_same}

-- a change of terms that goes below applications and abstractions, and into the types of constants
pub record GoesInside (f : Term → Term) (ty : Ty → Ty) : Type 0 where
  pub apps : (t u : Term) → f (app t u) ≡ app (f t) (f u)
  pub abss : (t : Term) → f (abs t) ≡ abs (f t)
  pub constants : (c : ℕ) (ts : List Ty) → f (atom (constant c ts)) ≡ atom (constant c (map ty ts))

pub two_inside : (f : Term → Term) (ty : Ty → Ty) → GoesInside f ty → (c : ℕ) {X Y : Term} (A B : Term) → X ≡ f A → Y ≡ f B → two c [] X Y ≡ f (two c [] A B)
two_inside f ty g c A B e h =
    (λ i. app (app (atom (constant c [])) (e i)) (h i)) ∙ ap (λ z. app (app z (f A)) (f B)) (sym (g.constants c [])) ∙ ap (λ z. app z (f B)) (sym (g.apps (atom (constant c [])) A)) ∙ sym (g.apps (app (atom (constant c [])) A) B)

quantified_inside : (f : Term → Term) (ty : Ty → Ty) → GoesInside f ty → (c : ℕ) (T : Ty) {X : Term} (A : Term) → X ≡ f A → app (atom (constant c (ty T ∷ []))) (abs X) ≡ f (app (atom (constant c (T ∷ []))) (abs A))
quantified_inside f ty g c T A e =
    ap (λ z. app (atom (constant c (ty T ∷ []))) (abs z)) e ∙ ap (λ z. app (atom (constant c (ty T ∷ []))) z) (sym (g.abss A)) ∙ ap (λ z. app z (f (abs A))) (sym (g.constants c (T ∷ []))) ∙ sym (g.apps (atom (constant c (T ∷ []))) (abs A))

not_inside : (f : Term → Term) (ty : Ty → Ty) → GoesInside f ty → {X : Term} (A : Term) → X ≡ f A → not_of X ≡ f (not_of A)
not_inside f ty g A e = ap not_of e ∙ ap (λ z. app z (f A)) (sym (g.constants number.Not [])) ∙ sym (g.apps (atom (constant number.Not [])) A)

all_inside : (f : Term → Term) (ty : Ty → Ty) → GoesInside f ty → (vs : List Ty) {X : Term} (A : Term) → X ≡ f A → all_of (map ty vs) X ≡ f (all_of vs A)
all_inside f ty g [] A e = e
all_inside f ty g (v ∷ vs) A e = all_inside f ty g vs (pi_of v (abs A)) (quantified_inside f ty g 4 v A e)

mutual
  pub goal_inside : (f : Term → Term) (ty : Ty → Ty) → GoesInside f ty → (n : ℕ) (g : Goal) → formula_of_goal (map_goal (λ u. u) (λ u t. f t) ty n g) ≡ f (formula_of_goal g)
  goal_inside f ty w n (Atomic t) = refl
  goal_inside f ty w n Cut = sym (w.constants 7 [])
  goal_inside f ty w n (Either gs hs) = two_inside f ty w 1 (formula_of_goals gs) (formula_of_goals hs) (goals_inside f ty w n gs) (goals_inside f ty w n hs)
  goal_inside f ty w n (Exists T gs) = quantified_inside f ty w 5 T (formula_of_goals gs) (goals_inside f ty w n gs)
  goal_inside f ty w n (Forall T gs) = quantified_inside f ty w 4 T (formula_of_goals gs) (goals_inside f ty w n gs)
  goal_inside f ty w n (Not ws gs) = not_inside f ty w (formula_of_goals gs) (goals_inside f ty w n gs)
  goal_inside f ty w n (Assume ws cs gs) = two_inside f ty w 2 (formula_of_clauses cs) (formula_of_goals gs) (clauses_inside f ty w n cs) (goals_inside f ty w n gs)

  pub goals_inside : (f : Term → Term) (ty : Ty → Ty) → GoesInside f ty → (n : ℕ) (gs : Goals) → formula_of_goals (map_goals (λ u. u) (λ u t. f t) ty n gs) ≡ f (formula_of_goals gs)
  goals_inside f ty w n no_goals = sym (w.constants 6 [])
  goals_inside f ty w n (goals g no_goals) = goal_inside f ty w n g
  goals_inside f ty w n (goals g (goals h gs)) = two_inside f ty w 0 (formula_of_goal g) (formula_of_goals (goals h gs)) (goal_inside f ty w n g) (goals_inside f ty w n (goals h gs))

  pub clause_inside : (f : Term → Term) (ty : Ty → Ty) → GoesInside f ty → (n : ℕ) (c : Clause) → formula_of_clause (map_clause (λ u. u) (λ u t. f t) ty n c) ≡ f (formula_of_clause c)
  clause_inside f ty w n (clause k vs h no_goals) = all_inside f ty w vs h refl
  clause_inside f ty w n (clause k vs h (goals g gs)) =
      all_inside f ty w vs (two 2 [] (formula_of_goals (goals g gs)) h) (two_inside f ty w 2 (formula_of_goals (goals g gs)) h (goals_inside f ty w (under_all (λ u. u) vs n) (goals g gs)) refl)

  pub clauses_inside : (f : Term → Term) (ty : Ty → Ty) → GoesInside f ty → (n : ℕ) (cs : Clauses) → formula_of_clauses (map_clauses (λ u. u) (λ u t. f t) ty n cs) ≡ f (formula_of_clauses cs)
  clauses_inside f ty w n no_clauses = sym (w.constants 6 [])
  clauses_inside f ty w n (clauses c no_clauses) = clause_inside f ty w n c
  clauses_inside f ty w n (clauses c (clauses e cs)) = two_inside f ty w 0 (formula_of_clause c) (formula_of_clauses (clauses e cs)) (clause_inside f ty w n c) (clauses_inside f ty w n (clauses e cs))

-- types put in
pub types_inside : (θ : ℕ → Ty) → GoesInside (instance_term θ) (instance θ)
types_inside θ = record { apps = λ t u. refl; abss = λ t. refl; constants = λ c ts. refl }

-- a binding whose value has no loose index

pub put_inside : (b : Binding) → shift 0 1 b.value ≡ b.value → GoesInside (put b) same_type
put_inside b e = record {
  apps = λ t u. refl;
  abss = λ t. ap (λ f. abs (fill f t)) (fun_ext (one_shut b e));
  constants = λ c ts. ap (λ z. atom (constant c z)) (sym (map_same ts));
}
