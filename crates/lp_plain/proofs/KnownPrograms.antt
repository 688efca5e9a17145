-- What is written in typed goals and clauses of a program stands in them: so no logic variable stands anywhere in them, and the loose indices are those of the variables around.
use Rattle.std.proofs.Common.{◌≡◌, ℕ, suc, ◌+◌, List, [], ◌∷◌, length, inl, inr, sym, subst, arith}
use Rattle.lp_calculus.specs.Fill.{Within}
use Rattle.lp_calculus.specs.Term.{Term, Atom, index, atom, abs, app, shift}
use Rattle.lp_calculus.specs.Types.{Ty}
use Rattle.lp_calculus.proofs.BetaEta.{shift_one}
use Rattle.lp_calculus.proofs.Fills.{within_unrename}
use Rattle.lp_lemmas.specs.Each.{AnyOf, EachOf}
use Rattle.lp_standard.specs.Connectives.{pi_of, two}
use Rattle.lp_standard.specs.Numbers as number
use Rattle.lp_model.specs.Flat.{Goal, Atomic, Cut, Either, Exists, Forall, Assume, Not, Goals, no_goals, goals, Clause, clause, Clauses, no_clauses, clauses, all_of, clause_list, formula_of_clause, formula_of_clauses, formula_of_goal, formula_of_goals}
use Rattle.lp_search_laws.specs.Written.{AreWrittenClauses, AreWrittenGoals, IsWrittenClause, IsWrittenGoal, StandsIn, StandsInOne}
use Rattle.lp_plain.specs.Resuming.{AllOfClause, AllOfClauses, AllOfGoal, AllOfGoals, AllTerms}

module _ (P : Atom → Type 0) where
  -- a part of a term
  stands_within : (d : ℕ) (t u : Term) → StandsIn t u → Within P d u → Within P d t
  stands_within d t (index i) e w = subst (Within P d) (sym e) w
  stands_within d t (atom a) e w = subst (Within P d) (sym e) w
  stands_within d t (abs b) (inl e) w = subst (Within P d) (sym e) w
  stands_within d t (abs b) (inr s) w = within_unrename P suc d (suc d) (λ j p. omega (arith, p)) t (subst (Within P (suc d)) (shift_one t) (stands_within (suc d) (shift 0 1 t) b s w))
  stands_within d t (app f a) (inl e) w = subst (Within P d) (sym e) w
  stands_within d t (app f a) (inr (inl s)) w = stands_within d t f s w.0
  stands_within d t (app f a) (inr (inr s)) w = stands_within d t a s w.1

  all_stand : (d : ℕ) (u : Term) (ts : List Term) → EachOf (λ t. StandsIn t u) ts → Within P d u → AllTerms (λ i t. Within P i t) d ts
  all_stand d u [] h w = tt
  all_stand d u (t ∷ ts) h w = (stands_within d t u h.0 w, all_stand d u ts h.1 w)

  all_within : (d : ℕ) (vs : List Ty) (t : Term) → Within P d (all_of vs t) → Within P (length vs + d) t
  all_within d [] t w = subst (λ n. Within P n t) (let z : d ≡ 0 + d = omega arith in z) w
  all_within d (T ∷ vs) t w = subst (λ n. Within P n t) (let z : suc (length vs + d) ≡ suc (length vs) + d = omega arith in z) (all_within d vs (pi_of T (abs t)) w).1

  -- one of these clauses
  each_within : (d : ℕ) (cs : Clauses) → Within P d (formula_of_clauses cs) → EachOf (λ c. Within P d (formula_of_clause c)) (clause_list cs)
  each_within d no_clauses w = tt
  each_within d (clauses c no_clauses) w = (w, tt)
  each_within d (clauses c (clauses e cs)) w = (w.0.1, each_within d (clauses e cs) w.1)

  one_within : (d : ℕ) (t : Term) (cs : List Clause) → AnyOf (λ c. StandsIn t (formula_of_clause c)) cs → EachOf (λ c. Within P d (formula_of_clause c)) cs → Within P d t
  one_within d t [] h w = absurd h
  one_within d t (c ∷ cs) (inl s) w = stands_within d t (formula_of_clause c) s w.0
  one_within d t (c ∷ cs) (inr s) w = one_within d t cs s w.1

  all_in_one : (d : ℕ) (cs : List Clause) (ts : List Term) → EachOf (StandsInOne cs) ts → EachOf (λ c. Within P d (formula_of_clause c)) cs → AllTerms (λ i t. Within P i t) d ts
  all_in_one d cs [] h w = tt
  all_in_one d cs (t ∷ ts) h w = (one_within d t cs h.0 w, all_in_one d cs ts h.1 w)

  mutual
    goal_within : (d : ℕ) (g : Goal) → Within P d (formula_of_goal g) → IsWrittenGoal g → AllOfGoal (λ i t. Within P i t) d g
    goal_within d (Atomic t) w h = w
    goal_within d Cut w h = tt
    goal_within d (Either gs hs) w h = (goals_within d gs w.0.1 h.0, goals_within d hs w.1 h.1)
    goal_within d (Exists T gs) w h = goals_within (suc d) gs w.1 h
    goal_within d (Forall T gs) w h = goals_within (suc d) gs w.1 h
    goal_within d (Assume v cs gs) w h = (all_in_one d (clause_list cs) v.terms h.0 (each_within d cs w.0.1), clauses_within d cs w.0.1 h.1, goals_within d gs w.1 h.2)
    goal_within d (Not v gs) w h = (all_stand d (formula_of_goals gs) v.terms h.0 w.1, goals_within d gs w.1 h.1)

    pub goals_within : (d : ℕ) (gs : Goals) → Within P d (formula_of_goals gs) → AreWrittenGoals gs → AllOfGoals (λ i t. Within P i t) d gs
    goals_within d no_goals w h = tt
    goals_within d (goals g no_goals) w h = (goal_within d g w h.0, tt)
    goals_within d (goals g (goals k gs)) w h = (goal_within d g w.0.1 h.0, goals_within d (goals k gs) w.1 h.1)

    pub clause_within : (d : ℕ) (c : Clause) → Within P d (formula_of_clause c) → IsWrittenClause c → AllOfClause (λ i t. Within P i t) d c
    clause_within d (clause n vs x no_goals) w h = (all_within d vs x w, tt)
    clause_within d (clause n vs x (goals g gs)) w h = let a = all_within d vs (two number.Implies [] (formula_of_goals (goals g gs)) x) w in (a.1, goals_within (length vs + d) (goals g gs) a.0.1 h)

    clauses_within : (d : ℕ) (cs : Clauses) → Within P d (formula_of_clauses cs) → AreWrittenClauses cs → AllOfClauses (λ i t. Within P i t) d cs
    clauses_within d no_clauses w h = tt
    clauses_within d (clauses c no_clauses) w h = (clause_within d c w h.0, tt)
    clauses_within d (clauses c (clauses e cs)) w h = (clause_within d c w.0.1 h.0, clauses_within d (clauses e cs) w.1 h.1)
