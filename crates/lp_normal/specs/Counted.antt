-- How many flattened clauses there are in flattened goals and clauses, those of assumptions among them, and the limit on them.
use Rattle.std.specs.Prelude.{◌≡◌, ℕ, suc, ◌+◌, ◌<◌, ◌⊎◌, Option, Some}
use Rattle.lp_base.specs.declared.limits.TheConstants.{MAX_CLAUSES}
use Rattle.lp_base.specs.declared.limit.Limit.TheVariants as limit
use Rattle.lp_calculus.specs.Term.{Term}
use Rattle.lp_calculus.specs.Typing.{Scheme}
use Rattle.lp_model.specs.Flat.{Goal, Atomic, Cut, Either, Exists, Forall, Assume, Not, Goals, no_goals, goals, clause, Clauses, no_clauses, clauses}
use Rattle.lp_model.specs.Flatten.{ClauseFormula, flatten, flatten_query}
use Rattle.lp_normal.specs.declared.fault.NormalRefusal.{NormalRefusal}
use Rattle.lp_normal.specs.declared.fault.NormalRefusal.TheVariants as refusal

abbrev mutual
  pub count_in_goal : Goal → ℕ
  count_in_goal (Atomic t) = 0
  count_in_goal Cut = 0
  count_in_goal (Either gs hs) = count_in_goals gs + count_in_goals hs
  count_in_goal (Exists T gs) = count_in_goals gs
  count_in_goal (Forall T gs) = count_in_goals gs
  count_in_goal (Assume w cs gs) = count_in_clauses cs + count_in_goals gs
  count_in_goal (Not w gs) = count_in_goals gs

  pub count_in_goals : Goals → ℕ
  count_in_goals no_goals = 0
  count_in_goals (goals g gs) = count_in_goal g + count_in_goals gs

  -- each clause is one, and has those that its body assumes
  pub count_in_clauses : Clauses → ℕ
  count_in_clauses no_clauses = 0
  count_in_clauses (clauses (clause n vs h b) cs) = suc (count_in_goals b) + count_in_clauses cs

-- so many clauses are more than the limit allows
abbrev pub PassesLimit : ℕ → Type 0
PassesLimit n = MAX_CLAUSES < n

-- What a formula is flattened to passes the limit, whatever the depth and the declared types by which it is flattened: these say whether it has the
-- form of a clause, or of a goal, and change nothing of what it is flattened to. So too of a query.

abbrev pub HasManyClauses : ClauseFormula → Type 0
HasManyClauses c = (n : ℕ) (d : ℕ → Option Scheme) (flat : Clauses) → flatten n d c ≡ Some flat → PassesLimit (count_in_clauses flat)

abbrev pub HasFewClauses : ClauseFormula → Type 0
HasFewClauses c = (n : ℕ) (d : ℕ → Option Scheme) (flat : Clauses) → flatten n d c ≡ Some flat → PassesLimit (count_in_clauses flat) → ⊥

abbrev pub AssumesManyClauses : Term → Type 0
AssumesManyClauses t = (n : ℕ) (d : ℕ → Option Scheme) (flat : Goals) → flatten_query n d t ≡ Some flat → PassesLimit (count_in_goals flat)

abbrev pub AssumesFewClauses : Term → Type 0
AssumesFewClauses t = (n : ℕ) (d : ℕ → Option Scheme) (flat : Goals) → flatten_query n d t ≡ Some flat → PassesLimit (count_in_goals flat) → ⊥

-- memory is wanting, or the limit on clauses is told and this holds
abbrev pub IsOver : (P : Type 0) → NormalRefusal → Type 0
IsOver P e = (e ≡ refusal.Memory) ⊎ ((e ≡ refusal.Limit limit.Clauses) × P)
