-- Formulas of goals and clauses have the atoms of these, and constants.
use Rattle.std.proofs.Common.{ℕ, List, [], ◌∷◌}
use Rattle.lp_calculus.specs.Types.{Ty}
use Rattle.lp_calculus.specs.Term.{Term, Atom, abs, constant}
use Rattle.lp_calculus.specs.Closed.{AllAtoms}
use Rattle.lp_standard.specs.Connectives.{pi_of, two}
use Rattle.lp_model.specs.Flat.{Goal, Atomic, Cut, Either, Exists, Forall, Assume, Not, Goals, no_goals, goals, Clause, clause, Clauses, no_clauses, clauses, all_of, formula_of_goal, formula_of_goals, formula_of_clause, formula_of_clauses}
use Rattle.lp_proof_laws.specs.Terms.{IsTermOf, AreTermsOf, IsClauseOf, AreClausesOf}

module _ (P : Atom → Type 0) (constants : (c : ℕ) (ts : List Ty) → P (constant c ts)) where
  abbrev Holds : Term → Type 0
  Holds t = AllAtoms P t

  all_atoms : (vs : List Ty) (t : Term) → Holds t → Holds (all_of vs t)
  all_atoms [] t w = w
  all_atoms (v ∷ vs) t w = all_atoms vs (pi_of v (abs t)) (constants _ _, w)

  mutual
    goal_atoms : (g : Goal) → IsTermOf Holds g → Holds (formula_of_goal g)
    goal_atoms (Atomic t) h = h
    goal_atoms Cut h = constants _ _
    goal_atoms (Either l r) h = ((constants _ _, goals_atoms l h.0), goals_atoms r h.1)
    goal_atoms (Exists T gs) h = (constants _ _, goals_atoms gs h)
    goal_atoms (Forall T gs) h = (constants _ _, goals_atoms gs h)
    goal_atoms (Assume w cs gs) h = ((constants _ _, clauses_atoms cs h.1), goals_atoms gs h.2)
    goal_atoms (Not w gs) h = (constants _ _, goals_atoms gs h.1)

    pub goals_atoms : (gs : Goals) → AreTermsOf Holds gs → Holds (formula_of_goals gs)
    goals_atoms no_goals h = constants _ _
    goals_atoms (goals g no_goals) h = goal_atoms g h.0
    goals_atoms (goals g (goals k gs)) h = ((constants _ _, goal_atoms g h.0), goals_atoms (goals k gs) h.1)

    pub clause_atoms : (c : Clause) → IsClauseOf Holds c → Holds (formula_of_clause c)
    clause_atoms (clause n vs x no_goals) h = all_atoms vs x h.0
    clause_atoms (clause n vs x (goals g gs)) h = all_atoms vs (two 2 [] (formula_of_goals (goals g gs)) x) ((constants _ _, goals_atoms (goals g gs) h.1), h.0)

    pub clauses_atoms : (cs : Clauses) → AreClausesOf Holds cs → Holds (formula_of_clauses cs)
    clauses_atoms no_clauses h = constants _ _
    clauses_atoms (clauses c no_clauses) h = clause_atoms c h.0
    clauses_atoms (clauses c (clauses e cs)) h = ((constants _ _, clause_atoms c h.0), clauses_atoms (clauses e cs) h.1)
