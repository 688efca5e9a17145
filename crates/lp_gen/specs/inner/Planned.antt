-- The records that goals assume, in the order in which they are met, and what is known of each assumption.
use Rattle.std.specs.Prelude.{◌≡◌, ◌⊎◌, ℕ, suc, ◌+◌, ◌-◌, ◌<◌, ◌≤◌, Bool, true, List, [], Some, slice_get}
use Rattle.lp_model.specs.Flat.{Goal, Goals, Clauses, Atomic, Cut, Either, Exists, Forall, Assume, Not, no_goals, goals, clause, no_clauses, clauses, assuming, denied}
use Rattle.lp_code.specs.States.{member}
use Rattle.lp_gen.specs.Sources.{ends_list}
use Rattle.lp_gen.specs.declared.plan.Assumption.{Assumption}
use Rattle.lp_gen.specs.declared.tables.Tables.{Tables}
use Rattle.lp_gen.specs.Steps.{Around}
use Rattle.lp_gen.specs.inner.TermLaw.{AllLoose}
use Rattle.lp_gen.specs.inner.Capturing.{IsSo, IsLevelOf}
use Rattle.lp_gen.specs.inner.Bodies.{new_level, AllThrough}
use Rattle.lp_gen.specs.inner.BodyCode.{Suppositions, AreStarts, levels_found, records_named}

abbrev pub clauses_length : Clauses → ℕ
clauses_length no_clauses = 0
clauses_length (clauses c cs) = suc (clauses_length cs)

-- how many records goals assume, those of assumed clauses not counted
abbrev mutual
  pub goal_records : Goal → ℕ
  goal_records (Atomic t) = 0
  goal_records Cut = 0
  goal_records (Either gs hs) = goals_records gs + goals_records hs
  goal_records (Exists T gs) = goals_records gs
  goal_records (Forall T gs) = goals_records gs
  goal_records (Assume w cs gs) = clauses_length cs + goals_records gs
  goal_records (Not w gs) = goals_records gs

  pub goals_records : Goals → ℕ
  goals_records no_goals = 0
  goals_records (goals g gs) = goal_records g + goals_records gs

-- how many variables are around what follows goals: those of a `sigma` are there up to the end of the block around it
abbrev mutual
  pub level_behind : ℕ → Goal → ℕ
  level_behind d (Atomic t) = d
  level_behind d Cut = d
  level_behind d (Either gs hs) = d
  level_behind d (Exists T gs) = levels_behind (suc d) gs
  level_behind d (Forall T gs) = d
  level_behind d (Assume w cs gs) = d
  level_behind d (Not w gs) = d

  pub levels_behind : ℕ → Goals → ℕ
  levels_behind d no_goals = d
  levels_behind d (goals g gs) = levels_behind (level_behind d g) gs

-- what holds of the clauses that goals assume, by the number of their first record and by how many variables are around them
abbrev mutual
  pub GoalHas : (ℕ → ℕ → Clauses → Type 0) → (q d : ℕ) → Goal → Type 0
  GoalHas D q d (Atomic t) = Unit {0}
  GoalHas D q d Cut = Unit {0}
  GoalHas D q d (Either gs hs) = GoalsHave D q d gs × GoalsHave D (q + goals_records gs) d hs
  GoalHas D q d (Exists T gs) = GoalsHave D q (suc d) gs
  GoalHas D q d (Forall T gs) = GoalsHave D q (suc d) gs
  GoalHas D q d (Assume w cs gs) = D q d cs × GoalsHave D (q + clauses_length cs) d gs
  GoalHas D q d (Not w gs) = GoalsHave D q d gs

  pub GoalsHave : (ℕ → ℕ → Clauses → Type 0) → (q d : ℕ) → Goals → Type 0
  GoalsHave D q d no_goals = Unit {0}
  GoalsHave D q d (goals g gs) = GoalHas D q d g × GoalsHave D (q + goal_records g) (level_behind d g) gs

-- goals that are written as they stand, where the clauses that they assume are
abbrev mutual
  pub IsWritten : Goal → Type 0
  IsWritten (Atomic t) = Unit {0}
  IsWritten Cut = Unit {0}
  IsWritten (Either gs hs) = AreWritten gs × AreWritten hs
  IsWritten (Exists T gs) = AreWritten gs
  IsWritten (Forall T gs) = AreWritten gs
  IsWritten (Assume w cs gs) = (Assume w cs gs ≡ assuming cs gs) × AreWritten gs
  IsWritten (Not w gs) = (Not w gs ≡ denied gs) × AreWritten gs

  pub AreWritten : Goals → Type 0
  AreWritten no_goals = Unit {0}
  AreWritten (goals g gs) = IsWritten g × AreWritten gs

-- goals in which each `sigma` ends its list, those of assumed clauses too
abbrev mutual
  pub DeepGoal : Goal → Type 0
  DeepGoal (Atomic t) = Unit {0}
  DeepGoal Cut = Unit {0}
  DeepGoal (Either gs hs) = DeepGoals gs × DeepGoals hs
  DeepGoal (Exists T gs) = DeepGoals gs
  DeepGoal (Forall T gs) = DeepGoals gs
  DeepGoal (Assume w cs gs) = DeepClauses cs × DeepGoals gs
  DeepGoal (Not w gs) = DeepGoals gs

  pub DeepGoals : Goals → Type 0
  DeepGoals no_goals = Unit {0}
  DeepGoals (goals g gs) = DeepGoal g × ends_list g gs × DeepGoals gs

  pub DeepClauses : Clauses → Type 0
  DeepClauses no_clauses = Unit {0}
  DeepClauses (clauses (clause n vs h b) cs) = DeepGoals b × DeepClauses cs

-- as many variables are around an assumption as around its goals
abbrev pub IsAtLevel : Tables → (q d : ℕ) → Clauses → Type 0
IsAtLevel t q d cs = (n : ℕ) (x : Assumption) → slice_get t.assumptions.now n ≡ Some x → t.first + x.first ≡ q → 0 < x.count → 0 < clauses_length cs → x.base ≡ d

-- which assumption it is
abbrev pub IsAssumption : Tables → Suppositions → (q d : ℕ) → Clauses → Type 0
IsAssumption t cl q d cs = (n : ℕ) × (x : Assumption) × (slice_get t.assumptions.now n ≡ Some x) × (cs ≡ cl.clauses n) × (t.first + x.first ≡ q) × (x.base ≡ d)

-- clauses without records, or those of an assumption whose records come later
pub record NamedBy (t : Tables) (cl : Suppositions) (first : ℕ) (a : Around) (ns ls : List ℕ) (cs : Clauses) (n : ℕ) (x : Assumption) : Type 0 where
  pub found : slice_get t.assumptions.now n ≡ Some x
  pub clauses_are : cs ≡ cl.clauses n
  pub names : ns ≡ records_named t x
  pub levels : ls ≡ levels_found a x.captured.keys
  pub starts : AreStarts a ls (cl.starts n) (cl.counts n)
  pub base : new_level a ≡ x.base
  pub later : first ≤ t.first + x.first
  pub count : clauses_length cs ≡ x.count

abbrev pub AreNamed : Tables → Suppositions → (first : ℕ) → Around → (records levels : List ℕ) → Clauses → Type 0
AreNamed t cl first a ns ls cs = ((ns ≡ []) × (cs ≡ no_clauses)) ⊎ ((n : ℕ) × (x : Assumption) × NamedBy t cl first a ns ls cs n x)

-- an index below the point of an assumption is that of a variable that its records start with
abbrev pub IsCaptured : Assumption → ℕ → Type 0
IsCaptured x i = i < x.base → member (x.base - i - 1) x.captured.keys ≡ true

abbrev pub AreCaptured : Assumption → Clauses → Type 0
AreCaptured x cs = AllThrough (AllLoose (IsCaptured x)) 0 cs

-- and each of these variables stands in the clauses
abbrev pub AreOnly : Assumption → Clauses → Type 0
AreOnly x cs = (p : ℕ → Bool) → AllThrough (AllLoose (IsSo p)) 0 cs → (k : ℕ) → member k x.captured.keys ≡ true → IsLevelOf x.base p k
