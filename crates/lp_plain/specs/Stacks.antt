-- The alternatives of the innermost search as the definition's tasks: each stands for as many tasks as it has left to try, so a mark that counts alternatives is one that
-- counts tasks.
use Rattle.std.specs.Prelude.{◌≡◌, ℕ, suc, ◌+◌, ◌-◌, ◌<◌, ◌≤◌, ◌||◌, List, [], ◌∷◌, ◌++◌, All, length, take, nat_lt, Option, None, Some}
use Rattle.lp_model.specs.Branch.{Task}
use Rattle.lp_model.specs.Skeleton.{oldest}
use Rattle.lp_plain.specs.declared.machine.Machine.{Machine}

-- the tasks of alternatives, the oldest alternative first, as a stack: the newest task first
abbrev pub stack_of : List (List Task) → List Task
stack_of [] = []
stack_of (ts ∷ tss) = stack_of tss ++ ts

-- how many alternatives stand below the innermost search: up to the one that leads back from its negated goal
abbrev pub base_of : Option ℕ → ℕ
base_of None = 0
base_of (Some k) = suc k

-- the alternatives of the innermost search are as many as these lists, and each has a task
pub record HaveTasks (m : Machine) (tss : List (List Task)) : Type 0 where
  pub count : base_of m.denied + length tss ≡ length m.choices.items
  pub tasks : All (λ ts. 0 < length ts) tss

-- the tasks of the oldest alternatives, up to a mark
abbrev pub up_to_mark : Machine → (mark : ℕ) → List (List Task) → List (List Task)
up_to_mark m mark tss = take (mark - base_of m.denied) tss

-- the definition's mark for a mark of the search
abbrev pub IsMarkOf : Machine → List (List Task) → (mark keep : ℕ) → Type 0
IsMarkOf m tss mark keep = (base_of m.denied ≤ mark) × (keep ≡ length (stack_of (up_to_mark m mark tss)))

-- a cut leaves the tasks that the definition's leaves, and notes whether it removed one as the definition does
pub record CutsTasks (old new : Machine) (mark keep : ℕ) (tss : List (List Task)) : Type 0 where
  pub have : HaveTasks new (up_to_mark old mark tss)
  pub stack : stack_of (up_to_mark old mark tss) ≡ oldest keep (stack_of tss)
  pub lost : new.counts.lost ≡ (old.counts.lost || nat_lt keep (length (stack_of tss)))
