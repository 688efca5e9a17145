-- The measures of walks that take units, the units that are left, and within a unit how far the part on top of the stack is from the deepest level; and of a
-- look: its contractions, within one the values that may be put, and within these the number of the head, which is above that of the head below it. A walk that
-- puts nodes together ends where memory does: each visit weighs more than all that takes its place.
use Rattle.std.specs.Prelude.{ℕ, zero, suc, ◌+◌, ◌-◌, ◌*◌, List, [], ◌∷◌, reverse, Option, Some, None}
use Rattle.lp_model.specs.declared.answer.Pair.{Pair}
use Rattle.lp_pattern.specs.declared.look.Spine.{Spine}
use Rattle.lp_pattern.specs.declared.scan.Visit.{Visit}
use Rattle.lp_pattern.specs.declared.settle.Task.{Task}

-- a unit weighs more than all levels
abbrev pub walk_left : (units depth : ℕ) → ℕ
walk_left units depth = units * 4611686018427387905 + (4611686018427387904 - depth)

-- how many abstractions are open in the first part
abbrev pub first_depth : List Visit → ℕ
first_depth [] = 0
first_depth (v ∷ vs) = v.opened.depth

abbrev pub depth_on_top : List Visit → ℕ
depth_on_top vs = first_depth (reverse vs)

-- the level of the first pair
abbrev pub first_level : List Pair → ℕ
first_level [] = 0
first_level (p ∷ ps) = p.level

abbrev pub level_on_top : List Pair → ℕ
level_on_top ps = first_level (reverse ps)

-- so many values may be put behind a contraction; a term's number is below 2 ^ 62
abbrev pub look_left : (values : ℕ) → Spine → ℕ
look_left v s = (s.left * suc v + s.values) * 4611686018427387904 + s.top.0

-- where nothing was found
abbrev pub Unless : {A : Type 0} → Option A → Type 0 → Type 0
Unless None P = P
Unless (Some x) P = Unit {0}

-- what a visit weighs where so many nodes may be put together around it: more than a node and all its parts, of which there are fewer than 2 ^ 64
abbrev pub weight : ℕ → ℕ
weight zero = 1
weight (suc n) = 36893488147419103232 * weight n

-- what the tasks weigh, the last one first: each that puts a node together leaves less room for those before it
abbrev pub tasks_weight : (room : ℕ) → List Task → ℕ
tasks_weight r [] = 0
tasks_weight r (Task.Visit t o ∷ ts) = weight r + tasks_weight r ts
tasks_weight r (Task.Abstract old body ∷ ts) = 1 + tasks_weight (r - 1) ts
tasks_weight r (Task.Apply a ∷ ts) = 1 + tasks_weight (r - 1) ts

-- the room behind these tasks
abbrev pub room_behind : (room : ℕ) → List Task → ℕ
room_behind r [] = r
room_behind r (Task.Visit t o ∷ ts) = room_behind r ts
room_behind r (Task.Abstract old body ∷ ts) = room_behind (r - 1) ts
room_behind r (Task.Apply a ∷ ts) = room_behind (r - 1) ts

-- fewer than 2 ^ 64 tasks have room in memory
abbrev pub tasks_left : List Task → ℕ
tasks_left ts = tasks_weight 18446744073709551616 ts
