-- How many variables the records of a plan have of their own, and how many are around their goals while the plan is made.
use Rattle.std.specs.Prelude.{◌≡◌, ℕ, suc, ◌+◌, ◌*◌, ◌≤◌, Some, slice_get, List, [], ◌∷◌, ◌++◌, length, All}
use Rattle.lp_term.specs.Nodes.{Nodes}
use Rattle.lp_model.specs.Flat.{Goal, Goals, Clauses, Atomic, Cut, Either, Exists, Forall, Assume, Not, no_goals, goals, clause, no_clauses, clauses}
use Rattle.lp_model.specs.Flattened.{goals_of}
use Rattle.lp_gen.specs.declared.fault.GenRefusal.{GenRefusal}
use Rattle.lp_gen.specs.declared.fault.GenRefusal.TheVariants as refusal
use Rattle.lp_gen.specs.declared.fault.RecordRefusal.{RecordRefusal}
use Rattle.lp_gen.specs.declared.fault.RecordRefusal.TheVariants as of_one
use Rattle.lp_base.specs.declared.limit.Limit.TheVariants as limit
use Rattle.lp_gen.specs.declared.plan.Due.{Due}
use Rattle.lp_gen.specs.declared.plan.Origin.{Origin}
use Rattle.lp_gen.specs.inner.Recorded.{own_count}
use Rattle.lp_gen.specs.inner.Planning.{Todo, due_goals, due_end, body_of}

-- the variables of `sigma` and `pi` in goals, those of clauses that are assumed not counted
abbrev mutual
  pub goal_binds : Goal → ℕ
  goal_binds (Atomic a) = 0
  goal_binds Cut = 0
  goal_binds (Either gs hs) = goals_bind gs + goals_bind hs
  goal_binds (Exists T gs) = suc (goals_bind gs)
  goal_binds (Forall T gs) = suc (goals_bind gs)
  goal_binds (Assume w cs gs) = goals_bind gs
  goal_binds (Not w gs) = goals_bind gs

  pub goals_bind : Goals → ℕ
  goals_bind no_goals = 0
  goals_bind (goals g gs) = goal_binds g + goals_bind gs

-- each clause that is assumed in goals, at any depth, has at most 65,535 variables
abbrev mutual
  pub GoalFits : Goal → Type 0
  GoalFits (Atomic a) = Unit {0}
  GoalFits Cut = Unit {0}
  GoalFits (Either gs hs) = GoalsFit gs × GoalsFit hs
  GoalFits (Exists T gs) = GoalsFit gs
  GoalFits (Forall T gs) = GoalsFit gs
  GoalFits (Assume w cs gs) = ClausesFit cs × GoalsFit gs
  GoalFits (Not w gs) = GoalsFit gs

  pub GoalsFit : Goals → Type 0
  GoalsFit no_goals = Unit {0}
  GoalsFit (goals g gs) = GoalFits g × GoalsFit gs

  pub ClausesFit : Clauses → Type 0
  ClausesFit no_clauses = Unit {0}
  ClausesFit (clauses (clause m vs h b) cs) = (length vs + goals_bind b ≤ 65535) × GoalsFit b × ClausesFit cs

-- so does the record itself
abbrev pub OriginFits : Nodes → Origin → Type 0
OriginFits b o = (own_count o + goals_bind (goals_of b (body_of o)) ≤ 65535) × GoalsFit (goals_of b (body_of o))

abbrev pub DueFits : Nodes → Due → Type 0
DueFits b u = OriginFits b u.origin

-- what is still to do

abbrev pub todo_binds : Nodes → List Todo → ℕ
todo_binds b [] = 0
todo_binds b (due_goals gs ∷ ts) = goals_bind (goals_of b gs) + todo_binds b ts
todo_binds b (due_end s l ∷ ts) = todo_binds b ts

abbrev pub TodoFits : Nodes → List Todo → Type 0
TodoFits b [] = Unit {0}
TodoFits b (due_goals gs ∷ ts) = GoalsFit (goals_of b gs) × TodoFits b ts
TodoFits b (due_end s l ∷ ts) = TodoFits b ts

-- no end restores more variables
abbrev pub AllLow : ℕ → List Todo → Type 0
AllLow n [] = Unit {0}
AllLow n (due_goals gs ∷ ts) = AllLow n ts
AllLow n (due_end s l ∷ ts) = (l ≤ n) × AllLow n ts

-- the variables around goals of a record behind its base: never more than have been met of `top` and `total`
pub record IsLeveled (b : Nodes) (base top total level : ℕ) (ts : List Todo) : Type 0 where
  pub near : level ≤ base + 65535
  pub ends_near : AllLow (base + 65535) ts
  pub met : ℕ
  pub level_met : level ≤ top + met
  pub ends_met : AllLow (top + met) ts
  pub rest : met + todo_binds b ts ≡ total

abbrev pub StaysLeveled : Nodes → (base level level' : ℕ) → (ts ts' : List Todo) → Type 0
StaysLeveled b n l l' ts ts' = (top total : ℕ) → IsLeveled b n top total l ts → IsLeveled b n top total l' ts'

-- parts that become due, under at most so many variables; they fit where what was to do fits
pub record Spreads (b : Nodes) (level : ℕ) (us us' : List Due) (ts ts' : List Todo) : Type 0 where
  pub more : List Due
  pub due_are : us' ≡ us ++ more
  pub low : All (λ u. u.base ≤ level) more
  pub fit : TodoFits b ts → TodoFits b ts' × All (DueFits b) more

-- what the walk over a part's goals has made due so far
pub record HasSpread (b : Nodes) (u : Due) (us us' : List Due) (ts : List Todo) : Type 0 where
  pub more : List Due
  pub due_are : us' ≡ us ++ more
  pub low : All (λ v. v.base ≤ u.base + 65535) more
  pub fit : DueFits b u → TodoFits b ts × All (DueFits b) more

-- a part of a place has at most 65,535 variables around it for each one before it
abbrev pub AreLow : List Due → Type 0
AreLow us = (i : ℕ) (u : Due) → slice_get us i ≡ Some u → u.base ≤ 65535 * i

-- where a record fits, nothing but memory is wanted
abbrev pub IsFull : Nodes → (base level : ℕ) → List Todo → RecordRefusal → Type 0
IsFull b n l ts e = (top total : ℕ) → IsLeveled b n top total l ts → top + total ≤ n + 65535 → n ≤ 4294836225 → e ≡ of_one.Memory

-- the refusal of a record as one of all
abbrev pub of_record : RecordRefusal → GenRefusal
of_record of_one.Registers = refusal.Limit limit.Registers
of_record of_one.Memory = refusal.Memory
