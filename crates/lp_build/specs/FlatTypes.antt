-- Flattened goals and clauses whose atoms are of type `o`, where τ gives the types of atoms and C those of the loose indices.
use Rattle.std.specs.Prelude.{List, [], ◌∷◌, ◌++◌, Option}
use Rattle.lp_calculus.specs.Types.{Ty}
use Rattle.lp_calculus.specs.Term.{Atom}
use Rattle.lp_calculus.specs.Typing.{HasType, o_type}
use Rattle.lp_model.specs.Flat.{Goal, Atomic, Cut, Either, Exists, Forall, Assume, Not, Goals, no_goals, goals, Clause, clause, Clauses, no_clauses, clauses}

abbrev mutual
  pub IsTypedGoal : (Atom → Option Ty) → List Ty → Goal → Type 0
  IsTypedGoal τ C (Atomic t) = HasType τ C t o_type
  IsTypedGoal τ C Cut = Unit {0}
  IsTypedGoal τ C (Either gs hs) = AreTypedGoals τ C gs × AreTypedGoals τ C hs
  IsTypedGoal τ C (Exists T gs) = AreTypedGoals τ (T ∷ C) gs
  IsTypedGoal τ C (Forall T gs) = AreTypedGoals τ (T ∷ C) gs
  IsTypedGoal τ C (Assume w cs gs) = AreTypedClauses τ C cs × AreTypedGoals τ C gs
  IsTypedGoal τ C (Not w gs) = AreTypedGoals τ C gs

  pub AreTypedGoals : (Atom → Option Ty) → List Ty → Goals → Type 0
  AreTypedGoals τ C no_goals = Unit {0}
  AreTypedGoals τ C (goals g gs) = IsTypedGoal τ C g × AreTypedGoals τ C gs

  -- a clause binds its variables, the innermost first
  pub AreTypedClauses : (Atom → Option Ty) → List Ty → Clauses → Type 0
  AreTypedClauses τ C no_clauses = Unit {0}
  AreTypedClauses τ C (clauses (clause n vs h b) cs) = (HasType τ (vs ++ C) h o_type × AreTypedGoals τ (vs ++ C) b) × AreTypedClauses τ C cs

-- a clause of a program
abbrev pub IsTypedClause : (Atom → Option Ty) → Clause → Type 0
IsTypedClause τ c = AreTypedClauses τ [] (clauses c no_clauses)
