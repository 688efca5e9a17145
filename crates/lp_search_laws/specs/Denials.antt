-- The search of a negated goal, as it begins.
use Rattle.std.specs.Prelude.{ℕ, List, []}
use Rattle.lp_model.specs.Flat.{Goals, Clause, Written, goal_list}
use Rattle.lp_model.specs.Branch.{Branch, Task, Go, entries}

-- the goals alone, at a level, with what is assumed there; what stands for the variables that are written in the assumptions; no cut in them keeps an alternative
abbrev pub denied_branch : (next next_type : ℕ) → Goals → (assumed : List Clause) → Written → (level : ℕ) → Branch
denied_branch next next_type gs assumed w level = record {
  next = next;
  next_type = next_type;
  goals = entries (goal_list gs) assumed w level 0;
  types = [];
  values = [];
  pairs = [];
}

abbrev pub denied_task : (next next_type : ℕ) → Goals → (assumed : List Clause) → Written → (level : ℕ) → Task
denied_task next next_type gs assumed w level = Go (denied_branch next next_type gs assumed w level)
