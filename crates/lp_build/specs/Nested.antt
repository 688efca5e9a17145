-- Flattened clauses within the limits of instructions: how deep terms and blocks nest, and how many arguments a head has.
use Rattle.std.specs.Prelude.{◌≡◌, ◌≤◌, ℕ, List, Option}
use Rattle.lp_lemmas.specs.Each.{EachOf}
use Rattle.lp_calculus.specs.Closed.{AllAtoms}
use Rattle.lp_calculus.specs.Term.{Term}
use Rattle.lp_calculus.specs.Typing.{Scheme}
use Rattle.lp_model.specs.Flat.{Goal, Atomic, Cut, Either, Exists, Forall, Assume, Not, Goals, no_goals, goals, Clause, clause, Clauses, no_clauses, clauses}
use Rattle.lp_model.specs.Proofs.{AreFlattened}
use Rattle.lp_gen.specs.Sources.{IsKnownAtom, IsKnownTerm, goals_depth}
use Rattle.lp_module.specs.Program.{clauses_in}
use Rattle.lp_module.specs.declared.module.Module.{Module}

-- each atom of goals and of clauses is so
abbrev mutual
  pub GoalHas : (Term → Type 0) → Goal → Type 0
  GoalHas P (Atomic t) = P t
  GoalHas P Cut = Unit {0}
  GoalHas P (Either gs hs) = GoalsHave P gs × GoalsHave P hs
  GoalHas P (Exists T gs) = GoalsHave P gs
  GoalHas P (Forall T gs) = GoalsHave P gs
  GoalHas P (Assume w cs gs) = ClausesHave P cs × GoalsHave P gs
  GoalHas P (Not w gs) = GoalsHave P gs

  pub GoalsHave : (Term → Type 0) → Goals → Type 0
  GoalsHave P no_goals = Unit {0}
  GoalsHave P (goals g gs) = GoalHas P g × GoalsHave P gs

  pub ClausesHave : (Term → Type 0) → Clauses → Type 0
  ClausesHave P no_clauses = Unit {0}
  ClausesHave P (clauses (clause n vs h b) cs) = (P h × GoalsHave P b) × ClausesHave P cs

-- where the atoms of a term are known over some kinds and type variables, the term is, within the limits
abbrev pub IsKnownWithin : Term → Type 0
IsKnownWithin t = (κ : ℕ → Option ℕ) (vars : ℕ) → AllAtoms (IsKnownAtom κ vars) t → IsKnownTerm κ vars 2000 0 t

-- so are the atoms of a clause, and its blocks do not nest too deep
abbrev pub IsClauseWithin : Clause → Type 0
IsClauseWithin (clause n vs h b) = IsKnownWithin h × GoalsHave IsKnownWithin b × (goals_depth b ≤ 2000)

-- what the clauses of a module are flattened to is so
abbrev pub FlattensWithin : Module → Type 0
FlattensWithin m = (d : ℕ → Option Scheme) (cs : List Clause) → AreFlattened d (clauses_in m) cs → EachOf IsClauseWithin cs
