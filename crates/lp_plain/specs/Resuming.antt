-- The entries of a branch as the bindings read them.
use Rattle.std.specs.Prelude.{ℕ, zero, suc, ◌+◌, List, [], ◌∷◌, map, length}
use Rattle.lp_calculus.specs.Types.{Ty, instance}
use Rattle.lp_calculus.specs.Term.{Term}
use Rattle.lp_calculus.specs.Fill.{Within}
use Rattle.lp_model.specs.Branch.{Entry}
use Rattle.lp_model.specs.Flat.{Goal, Atomic, Cut, Either, Exists, Forall, Assume, Not, Goals, no_goals, goals, Clause, clause, Clauses, no_clauses, clauses, map_written, map_goal, map_clause}
use Rattle.lp_model.specs.Pair.{Closing, closed}
use Rattle.lp_pattern.specs.Putting.{Known}

-- all terms and types of goals and clauses changed so
abbrev pub goal_with : (Term → Term) → (Ty → Ty) → Goal → Goal
goal_with f t g = map_goal (λ u. u) (λ u x. f x) t zero g

abbrev pub clause_with : (Term → Term) → (Ty → Ty) → Clause → Clause
clause_with f t c = map_clause (λ u. u) (λ u x. f x) t zero c

abbrev pub entry_with : (Term → Term) → (Ty → Ty) → Entry → Entry
entry_with f t e = record { goal = goal_with f t e.goal; assumed = map (clause_with f t) e.assumed; written = map_written f t e.written; level = e.level; mark = e.mark }

-- as the bindings read them
abbrev pub entries_under : Closing → List Entry → List Entry
entries_under z es = map (entry_with (closed z) (instance z.types)) es

-- so of each term of a list, of a goal, and so on, with the number of binders around it
abbrev pub AllTerms : (P : ℕ → Term → Type 0) → (depth : ℕ) → List Term → Type 0
AllTerms P d [] = Unit {0}
AllTerms P d (t ∷ ts) = P d t × AllTerms P d ts

abbrev mutual
  pub AllOfGoal : (P : ℕ → Term → Type 0) → (depth : ℕ) → Goal → Type 0
  AllOfGoal P d (Atomic t) = P d t
  AllOfGoal P d Cut = Unit {0}
  AllOfGoal P d (Either gs hs) = AllOfGoals P d gs × AllOfGoals P d hs
  AllOfGoal P d (Exists T gs) = AllOfGoals P (suc d) gs
  AllOfGoal P d (Forall T gs) = AllOfGoals P (suc d) gs
  AllOfGoal P d (Assume w cs gs) = AllTerms P d w.terms × AllOfClauses P d cs × AllOfGoals P d gs
  AllOfGoal P d (Not w gs) = AllTerms P d w.terms × AllOfGoals P d gs

  pub AllOfGoals : (P : ℕ → Term → Type 0) → (depth : ℕ) → Goals → Type 0
  AllOfGoals P d no_goals = Unit {0}
  AllOfGoals P d (goals g gs) = AllOfGoal P d g × AllOfGoals P d gs

  pub AllOfClause : (P : ℕ → Term → Type 0) → (depth : ℕ) → Clause → Type 0
  AllOfClause P d (clause k vs h b) = P (length vs + d) h × AllOfGoals P (length vs + d) b

  pub AllOfClauses : (P : ℕ → Term → Type 0) → (depth : ℕ) → Clauses → Type 0
  AllOfClauses P d no_clauses = Unit {0}
  AllOfClauses P d (clauses c cs) = AllOfClause P d c × AllOfClauses P d cs

abbrev pub AllOfAssumed : (P : ℕ → Term → Type 0) → List Clause → Type 0
AllOfAssumed P [] = Unit {0}
AllOfAssumed P (c ∷ cs) = AllOfClause P 0 c × AllOfAssumed P cs

-- of entries, their assumptions and what is written in them
abbrev pub AllOfEntries : (P : ℕ → Term → Type 0) → List Entry → Type 0
AllOfEntries P [] = Unit {0}
AllOfEntries P (e ∷ es) = (AllOfGoal P 0 e.goal × AllOfAssumed P e.assumed × AllTerms P 0 e.written.terms) × AllOfEntries P es

-- the variables of all terms are known, as the bindings read them
abbrev pub AreKnownEntries : (levels : ℕ → ℕ) → (next : ℕ) → Closing → List Entry → Type 0
AreKnownEntries lv n z es = AllOfEntries (λ d t. Within (Known lv n) d (closed z t)) es

-- so of each type that a goal binds or that is written in it
abbrev pub AllTys : (Q : Ty → Type 0) → List Ty → Type 0
AllTys Q [] = Unit {0}
AllTys Q (T ∷ Ts) = Q T × AllTys Q Ts

abbrev mutual
  pub TysOfGoal : (Q : Ty → Type 0) → Goal → Type 0
  TysOfGoal Q (Atomic t) = Unit {0}
  TysOfGoal Q Cut = Unit {0}
  TysOfGoal Q (Either gs hs) = TysOfGoals Q gs × TysOfGoals Q hs
  TysOfGoal Q (Exists T gs) = Q T × TysOfGoals Q gs
  TysOfGoal Q (Forall T gs) = Q T × TysOfGoals Q gs
  TysOfGoal Q (Assume w cs gs) = AllTys Q w.types × TysOfClauses Q cs × TysOfGoals Q gs
  TysOfGoal Q (Not w gs) = AllTys Q w.types × TysOfGoals Q gs

  pub TysOfGoals : (Q : Ty → Type 0) → Goals → Type 0
  TysOfGoals Q no_goals = Unit {0}
  TysOfGoals Q (goals g gs) = TysOfGoal Q g × TysOfGoals Q gs

  pub TysOfClause : (Q : Ty → Type 0) → Clause → Type 0
  TysOfClause Q (clause k vs h b) = AllTys Q vs × TysOfGoals Q b

  pub TysOfClauses : (Q : Ty → Type 0) → Clauses → Type 0
  TysOfClauses Q no_clauses = Unit {0}
  TysOfClauses Q (clauses c cs) = TysOfClause Q c × TysOfClauses Q cs
