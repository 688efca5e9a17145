-- Goals and clauses that are written: terms of a program, whose loose indices are those of the variables around them, and heads that are constants, or indices that a `pi`
-- of goals binds. Assumed clauses have no type variables of their own.
use Rattle.std.specs.Prelude.{◌≡◌, Bool, true, false, ℕ, ◌+◌, List, [], ◌∷◌, length}
use Rattle.lp_calculus.specs.Spine.{head_of}
use Rattle.lp_model.specs.Flat.{Goal, Atomic, Cut, Either, Exists, Forall, Assume, Not, Goals, no_goals, goals, Clause, clause, Clauses, no_clauses, clauses}
use Rattle.lp_plain.specs.Resuming.{TysOfGoals}
use Rattle.lp_plain.specs.Written.{IsTypeBelow, IsWritten}
use Rattle.lp_plain.specs.WrittenTable.{IsWrittenHead, own_and}

abbrev pub HasNoTypes : Clause → Type 0
HasNoTypes (clause n vs h b) = n ≡ 0

abbrev mutual
  pub GoalWritten : (ar : ℕ → ℕ) → (k : ℕ) → (binders : List Bool) → Goal → Type 0
  GoalWritten ar k bs (Atomic t) = IsWritten ar k (length bs) t
  GoalWritten ar k bs Cut = Unit {0}
  GoalWritten ar k bs (Either gs hs) = GoalsWritten ar k bs gs × GoalsWritten ar k bs hs
  GoalWritten ar k bs (Exists T gs) = GoalsWritten ar k (false ∷ bs) gs
  GoalWritten ar k bs (Forall T gs) = GoalsWritten ar k (true ∷ bs) gs
  GoalWritten ar k bs (Assume w cs gs) = ClausesWritten ar k bs cs × GoalsWritten ar k bs gs
  GoalWritten ar k bs (Not w gs) = GoalsWritten ar k bs gs

  pub GoalsWritten : (ar : ℕ → ℕ) → (k : ℕ) → (binders : List Bool) → Goals → Type 0
  GoalsWritten ar k bs no_goals = Unit {0}
  GoalsWritten ar k bs (goals g gs) = GoalWritten ar k bs g × GoalsWritten ar k bs gs

  pub ClauseWritten : (ar : ℕ → ℕ) → (k : ℕ) → (binders : List Bool) → Clause → Type 0
  ClauseWritten ar k bs (clause n vs h b) = IsWrittenHead ar k (length vs) bs (head_of h) × IsWritten ar k (length vs + length bs) h × GoalsWritten ar k (own_and (length vs) bs) b

  pub ClausesWritten : (ar : ℕ → ℕ) → (k : ℕ) → (binders : List Bool) → Clauses → Type 0
  ClausesWritten ar k bs no_clauses = Unit {0}
  ClausesWritten ar k bs (clauses c cs) = HasNoTypes c × ClauseWritten ar k bs c × ClausesWritten ar k bs cs

-- a clause of a program, which binds its own type variables alone
abbrev pub IsProgramClause : (ar : ℕ → ℕ) → Clause → Type 0
IsProgramClause ar (clause n vs h b) = ClauseWritten ar n [] (clause n vs h b) × TysOfGoals (IsTypeBelow n) b
