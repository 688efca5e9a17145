-- Goals and clauses without negated goals.
use Rattle.lp_model.specs.Flat.{Goal, Atomic, Cut, Either, Exists, Forall, Assume, Not, Goals, no_goals, goals, Clause, clause, Clauses, no_clauses, clauses}

abbrev mutual
  pub IsUnnegatedGoal : Goal → Type 0
  IsUnnegatedGoal (Atomic t) = Unit {0}
  IsUnnegatedGoal Cut = Unit {0}
  IsUnnegatedGoal (Either gs hs) = AreUnnegatedGoals gs × AreUnnegatedGoals hs
  IsUnnegatedGoal (Exists T gs) = AreUnnegatedGoals gs
  IsUnnegatedGoal (Forall T gs) = AreUnnegatedGoals gs
  IsUnnegatedGoal (Assume w cs gs) = AreUnnegatedClauses cs × AreUnnegatedGoals gs
  IsUnnegatedGoal (Not w gs) = ⊥

  pub AreUnnegatedGoals : Goals → Type 0
  AreUnnegatedGoals no_goals = Unit {0}
  AreUnnegatedGoals (goals g gs) = IsUnnegatedGoal g × AreUnnegatedGoals gs

  pub IsUnnegatedClause : Clause → Type 0
  IsUnnegatedClause (clause n vs h b) = AreUnnegatedGoals b

  pub AreUnnegatedClauses : Clauses → Type 0
  AreUnnegatedClauses no_clauses = Unit {0}
  AreUnnegatedClauses (clauses c cs) = IsUnnegatedClause c × AreUnnegatedClauses cs
