-- Terms put for loose indices in goals and clauses are put in their formulas.
use Rattle.std.proofs.Common.{◌≡◌, ℕ, List, [], ◌∷◌, map, ◌∙◌, refl, ap}
use Rattle.lp_calculus.specs.Types.{Ty}
use Rattle.lp_calculus.specs.Term.{Term, abs}
use Rattle.lp_model.specs.Index.{instantiate, lifted}
use Rattle.lp_standard.specs.Connectives.{two, not_of, pi_of, sigma_of}
use Rattle.lp_model.specs.Flat.{Goal, Atomic, Cut, Either, Exists, Forall, Assume, Not, Goals, no_goals, goals, Clause, clause, Clauses, no_clauses, clauses, under_all, map_goal, map_goals, map_clause, map_clauses, same_type, all_of, formula_of_goal, formula_of_goals, formula_of_clause, formula_of_clauses}

pub map_same : (vs : List Ty) → map same_type vs ≡ vs
map_same [] = refl
map_same (v ∷ vs) = ap (λ us. v ∷ us) (map_same vs)

all_instantiate : (vs : List Ty) (f : ℕ → Term) (t : Term) → all_of vs (instantiate (under_all lifted vs f) t) ≡ instantiate f (all_of vs t)
all_instantiate [] f t = refl
all_instantiate (v ∷ vs) f t = all_instantiate vs f (pi_of v (abs t))

pub two_same : (c : ℕ) {A B X Y : Term} → A ≡ X → B ≡ Y → two c [] A B ≡ two c [] X Y
two_same c e f = λ i. two c [] (e i) (f i)

mutual
  goal_instantiate : (f : ℕ → Term) (g : Goal) → formula_of_goal (map_goal lifted instantiate same_type f g) ≡ instantiate f (formula_of_goal g)
  goal_instantiate f (Atomic t) = refl
  goal_instantiate f Cut = refl
  goal_instantiate f (Either gs hs) = two_same 1 (goals_instantiate f gs) (goals_instantiate f hs)
  goal_instantiate f (Exists T gs) = ap (λ z. sigma_of T (abs z)) (goals_instantiate (lifted f) gs)
  goal_instantiate f (Forall T gs) = ap (λ z. pi_of T (abs z)) (goals_instantiate (lifted f) gs)
  goal_instantiate f (Assume ws cs gs) = two_same 2 (clauses_instantiate f cs) (goals_instantiate f gs)
  goal_instantiate f (Not ws gs) = ap not_of (goals_instantiate f gs)

  pub goals_instantiate : (f : ℕ → Term) (gs : Goals) → formula_of_goals (map_goals lifted instantiate same_type f gs) ≡ instantiate f (formula_of_goals gs)
  goals_instantiate f no_goals = refl
  goals_instantiate f (goals g no_goals) = goal_instantiate f g
  goals_instantiate f (goals g (goals h gs)) = two_same 0 (goal_instantiate f g) (goals_instantiate f (goals h gs))

  pub clause_instantiate : (f : ℕ → Term) (c : Clause) → formula_of_clause (map_clause lifted instantiate same_type f c) ≡ instantiate f (formula_of_clause c)
  clause_instantiate f (clause n vs h no_goals) = ap (λ z. all_of z (instantiate (under_all lifted vs f) h)) (map_same vs) ∙ all_instantiate vs f h
  clause_instantiate f (clause n vs h (goals g gs)) =
      ap (λ z. all_of z (two 2 [] (formula_of_goals (map_goals lifted instantiate same_type (under_all lifted vs f) (goals g gs))) (instantiate (under_all lifted vs f) h))) (map_same vs) ∙
      ap (λ z. all_of vs (two 2 [] z (instantiate (under_all lifted vs f) h))) (goals_instantiate (under_all lifted vs f) (goals g gs)) ∙
      all_instantiate vs f (two 2 [] (formula_of_goals (goals g gs)) h)

  pub clauses_instantiate : (f : ℕ → Term) (cs : Clauses) → formula_of_clauses (map_clauses lifted instantiate same_type f cs) ≡ instantiate f (formula_of_clauses cs)
  clauses_instantiate f no_clauses = refl
  clauses_instantiate f (clauses c no_clauses) = clause_instantiate f c
  clauses_instantiate f (clauses c (clauses e cs)) = two_same 0 (clause_instantiate f c) (clauses_instantiate f (clauses e cs))
