-- Plain depth-first search over Horn clauses, as a look at tasks.
use Rattle.std.specs.Prelude.{ℕ, zero, suc, ◌+◌, List, [], ◌∷◌, ◌++◌, map, length, filter, Option, Some, None, Bool}
use Rattle.lp_calculus.specs.Types.{Ty}
use Rattle.lp_calculus.specs.Term.{Term, atom, logic}
use Rattle.lp_calculus.specs.Fill.{Binding, put_all}
use Rattle.lp_model.specs.Index.{instantiate}
use Rattle.lp_calculus.specs.Spine.{arguments}
use Rattle.lp_model.specs.Spine.{constant_of_head, same_name, goal_name}
use Rattle.lp_model.specs.Skeleton.{View, Gives, Opens, Takes, State, starts}
use Rattle.lp_model.specs.Horn.{ClauseOf, QueryOf}
use Rattle.lp_model.specs.HornUnify.{unify}

-- what is kept of variables: how many they are, and those of a branch with those of a clause behind them
pub record Kept (X : Type 0) : Type 0 where
  pub number : X → ℕ
  pub both : X → X → X

-- only their number
abbrev pub by_number : Kept ℕ
by_number = record { number = λ n. n; both = λ n m. n + m }

-- their types
abbrev pub by_type : Kept (List Ty)
by_type = record { number = λ V. length V; both = λ V W. V ++ W }

-- a branch: its variables, logic variables of level 0 numbered from 0, the goals left, and the terms of the query's variables
pub record BranchOf (X : Type 0) : Type 0 where
  pub vars : X
  pub goals : List Term
  pub query : List Term

-- what is given: the terms of the query's variables, in these variables
pub record AnswerOf (X : Type 0) : Type 0 where
  pub vars : X
  pub values : List Term

pub data TaskOf (X : Type 0) : Type 0 where
  -- a branch to go on with
  Go : BranchOf X → TaskOf X
  -- a candidate clause for a goal, with the rest of the branch
  Try : ClauseOf X → Term → BranchOf X → TaskOf X

-- n logic variables from i on
abbrev pub vars_from : (n i : ℕ) → List Term
vars_from zero i = []
vars_from (suc n) i = atom (logic i 0) ∷ vars_from n (suc i)

-- a clause's term, its variables renamed to the logic variables from i on
abbrev pub renamed : (i : ℕ) → Term → Term
renamed i t = instantiate (λ k. atom (logic (i + k) 0)) t

-- the constants at the heads are the same
abbrev pub is_candidate : {X : Type 0} → Term → ClauseOf X → Bool
is_candidate g c = same_name (constant_of_head c.head) (constant_of_head g)

-- a candidate for each clause of the goal's head, in written order
abbrev pub tries : {X : Type 0} → List (ClauseOf X) → Term → BranchOf X → List (TaskOf X)
tries P g b = map (λ c. Try c g b) (filter (is_candidate g) P)

module _ {X : Type 0} (kept : Kept X) where
  -- the branch under bindings, in front of it the clause's body
  abbrev pub resumed : ClauseOf X → BranchOf X → Option (List Binding) → List (TaskOf X)
  resumed c b None = []
  resumed c b (Some made) = Go (record {
    vars = kept.both b.vars c.vars;
    goals = map (put_all made) (map (renamed (kept.number b.vars)) c.body ++ b.goals);
    query = map (put_all made) b.query;
  }) ∷ []

  -- the goal resolved with the clause, where their arguments unify: the goal's on the left
  abbrev pub resolve : ClauseOf X → Term → BranchOf X → List (TaskOf X)
  resolve c g b = resumed c b (unify (arguments g) (arguments (renamed (kept.number b.vars) c.head)) [])

  abbrev pub look_goals : List (ClauseOf X) → BranchOf X → List Term → View (TaskOf X) (AnswerOf X)
  look_goals P b [] = Gives (record { vars = b.vars; values = b.query })
  look_goals P b (g ∷ gs) = Takes (goal_name g) (tries P g (record { vars = b.vars; goals = gs; query = b.query }))

  -- what a task turns out to be; this fragment has no cut and does not ask for the height
  abbrev pub look : List (ClauseOf X) → (height : ℕ) → TaskOf X → View (TaskOf X) (AnswerOf X)
  look P height (Go b) = look_goals P b b.goals
  look P height (Try c g b) = Opens (resolve c g b)

  -- the search of a query, with its limits
  abbrev pub start : QueryOf X → (steps answers : ℕ) → State (TaskOf X)
  start q steps answers = starts (Go (record {
    vars = q.vars;
    goals = map (renamed 0) q.goals;
    query = vars_from (kept.number q.vars) 0;
  })) steps answers
