-- Depth-first search over a stack of tasks, whatever a task is: the limits, the notes, cuts, negation as failure (Clark 1978) and the ends of a run.
-- A task is a branch to go on with, or a candidate still to be tried; the tasks below the newest are the alternatives.
use Rattle.std.specs.Prelude.{ℕ, zero, suc, ◌+◌, ◌-◌, ◌||◌, Bool, true, false, if◌then◌else◌, nat_lt, List, [], ◌∷◌, ◌++◌, length, drop, Option, Some, None}
use Rattle.lp_standard.specs.Numbers as number
use Rattle.lp_model.specs.declared.ending.Ending.{Ending}
use Rattle.lp_model.specs.declared.ending.Ending.TheVariants.{NoMore, NoMoreCut, Enough, Steps, Flexible, Arithmetic, OpenNot, Deep}

-- the head of an atomic goal, as a note names it
pub data GoalName : Type 0 where
  named : (constant : ℕ) → GoalName
  eigenconstant : (level : ℕ) → GoalName
  variable : GoalName

-- what a watcher is told
pub data Note : Type 0 where
  -- an atomic goal is taken
  GoalNote : GoalName → Note
  -- the search goes back to the newest alternative
  BackNote : Note
  -- the answer of this number, from 1
  AnswerNote : ℕ → Note
  CutNote : Note

-- what the newest task turns out to be
pub data View (Task Answer : Type 0) : Type 0 where
  -- nothing is left to prove
  Gives : Answer → View Task Answer
  -- these tasks in its place, the first to be tried first, at no step
  Opens : List Task → View Task Answer
  -- the goal in front is taken apart, at no step, but counted
  Parts : List Task → View Task Answer
  -- an atomic goal: one step, and these tasks in its place
  Takes : GoalName → List Task → View Task Answer
  -- a cut: one step, these tasks in its place, and of the others only the oldest `keep`
  Cuts : (keep : ℕ) → List Task → View Task Answer
  -- a negated goal: one step, and then a search of its own of the task `inner`; where that fails these tasks stand in its place, and none where it
  -- gives an answer that is final
  Denies : (inner : Task) → (is_final : Answer → Bool) → List Task → View Task Answer
  -- the search cannot go on
  Halts : Ending → View Task Answer
  -- the look needs more steps than it was allowed
  Lacks : View Task Answer

-- as many goals may be taken apart in a row, since the start, the last step or the last answer
abbrev pub row_limit : ℕ
row_limit = 1000000

-- the constant `not`, by which a note names a negated goal
abbrev pub not_constant : ℕ
not_constant = number.Not

pub record State (Task : Type 0) : Type 0 where
  -- the steps that are left
  pub steps : ℕ
  -- the answers that are left, and those that were given
  pub answers : ℕ
  pub given : ℕ
  -- the goals that may be taken apart in a row, and those that are left of them
  pub rows : ℕ
  pub row : ℕ
  -- some cut removed an alternative
  pub lost : Bool
  -- the tasks, newest first
  pub stack : List Task

-- a search of one task, in which so many goals may be taken apart in a row
abbrev pub starts_within : {Task : Type 0} → (rows : ℕ) → Task → (steps answers : ℕ) → State Task
starts_within rows t steps answers = record { steps = steps; answers = answers; given = 0; rows = rows; row = rows; lost = false; stack = t ∷ [] }

abbrev pub starts : {Task : Type 0} → Task → (steps answers : ℕ) → State Task
starts t steps answers = starts_within row_limit t steps answers

-- what comes of the search of a negated goal, in so many steps, with these notes
pub data Inner : Type 0 where
  -- no way is left and none was cut away: the goal does not hold, and its negation does. `row` goals may still be taken apart
  Refuted : (steps : ℕ) → List Note → (row : ℕ) → Inner
  -- a final answer: the goal holds, and its negation does not
  Held : (steps : ℕ) → List Note → (row : ℕ) → Inner
  -- the whole search ends
  Broke : (steps : ℕ) → List Note → Ending → Inner
  -- it is not over
  Lasts : (steps : ℕ) → List Note → Inner

pub data Move (Task Answer : Type 0) : Type 0 where
  -- so many steps are taken, with these notes
  Goes : (steps : ℕ) → List Note → State Task → Move Task Answer
  Tells : Answer → List Note → State Task → Move Task Answer
  Stops : Ending → Move Task Answer
  -- the search ends in that of a negated goal
  Breaks : (steps : ℕ) → List Note → Ending → Move Task Answer
  -- neither: a look or the search of a negated goal needs more than it was allowed
  Waits : (steps : ℕ) → List Note → Move Task Answer

-- the oldest so many
abbrev pub oldest : {A : Type 0} → ℕ → List A → List A
oldest m xs = drop (length xs - m) xs

-- a task that leaves none in its place is gone back from, where another is there to go back to
abbrev pub back : {Task : Type 0} → (left rest : List Task) → List Note
back [] [] = []
back [] (t ∷ rest) = BackNote ∷ []
back (t ∷ left) rest = []

-- after an answer, where more are asked for
abbrev pub back_for_more : {Task : Type 0} → (answers : ℕ) → (rest : List Task) → List Note
back_for_more zero rest = []
back_for_more (suc k) rest = back [] rest

-- what a negated goal leaves, by what came of its search
abbrev pub move_denied : {Task Answer : Type 0} → (n k g u : ℕ) → (lost : Bool) → (after rest : List Task) → Inner → Move Task Answer
move_denied n k g u lost after rest (Refuted j ns p) =
    Goes (suc j) (GoalNote (named not_constant) ∷ ns ++ back after rest) (record { steps = n - j; answers = suc k; given = g; rows = u; row = p; lost = lost; stack = after ++ rest })
move_denied n k g u lost after rest (Held j ns p) =
    Goes (suc j) (GoalNote (named not_constant) ∷ ns ++ back [] rest) (record { steps = n - j; answers = suc k; given = g; rows = u; row = p; lost = lost; stack = rest })
move_denied n k g u lost after rest (Broke j ns e) = Breaks (suc j) (GoalNote (named not_constant) ∷ ns) e
move_denied n k g u lost after rest (Lasts j ns) = Waits (suc j) (GoalNote (named not_constant) ∷ ns)

-- the move where n steps and one and k further answers are left, g were given, and p of u goals may be taken apart; `go` is the search of a negated goal
abbrev pub move_view : {Task Answer : Type 0} → (go : (Answer → Bool) → State Task → Inner) → (n k g u p : ℕ) → (lost : Bool) → (rest : List Task) → View Task Answer → Move Task Answer
move_view go n k g u p lost rest (Gives a) = Tells a (AnswerNote (suc g) ∷ back_for_more k rest) (record { steps = n; answers = k; given = suc g; rows = u; row = u; lost = lost; stack = rest })
move_view go n k g u p lost rest (Opens ts) = Goes 0 (back ts rest) (record { steps = n; answers = suc k; given = g; rows = u; row = p; lost = lost; stack = ts ++ rest })
move_view go n k g u zero lost rest (Parts ts) = Stops Deep
move_view go n k g u (suc p) lost rest (Parts ts) = Goes 0 (back ts rest) (record { steps = n; answers = suc k; given = g; rows = u; row = p; lost = lost; stack = ts ++ rest })
move_view go zero k g u p lost rest (Takes name ts) = Stops Steps
move_view go (suc n) k g u p lost rest (Takes name ts) = Goes 1 (GoalNote name ∷ back ts rest) (record { steps = n; answers = suc k; given = g; rows = u; row = u; lost = lost; stack = ts ++ rest })
move_view go zero k g u p lost rest (Cuts m ts) = Stops Steps
move_view go (suc n) k g u p lost rest (Cuts m ts) =
    Goes 1 (CutNote ∷ back ts (oldest m rest)) (record { steps = n; answers = suc k; given = g; rows = u; row = u; lost = lost || nat_lt m (length rest); stack = ts ++ oldest m rest })
move_view go zero k g u p lost rest (Denies t is_final ts) = Stops Steps
move_view go (suc n) k g u p lost rest (Denies t is_final ts) = move_denied n k g u lost ts rest (go is_final (starts_within u t n 1))
move_view go n k g u p lost rest (Halts e) = Stops e
move_view go n k g u p lost rest Lacks = Waits 0 []

abbrev pub move_at : {Task Answer : Type 0} → (go : (Answer → Bool) → State Task → Inner) → (ℕ → Task → View Task Answer) → (n k g u p : ℕ) → (lost : Bool) → (stack : List Task) → Move Task Answer
move_at go look n zero g u p lost stack = Stops Enough
move_at go look n (suc k) g u p true [] = Stops NoMoreCut
move_at go look n (suc k) g u p false [] = Stops NoMore
move_at go look n (suc k) g u p lost (t ∷ rest) = move_view go n k g u p lost rest (look (length rest) t)

-- one small move; the look at a task also sees how many alternatives there are
abbrev pub move : {Task Answer : Type 0} → (go : (Answer → Bool) → State Task → Inner) → (ℕ → Task → View Task Answer) → State Task → Move Task Answer
move go look s = move_at go look s.steps s.answers s.given s.rows s.row s.lost s.stack

-- so many steps and these notes come first
abbrev pub later : (steps : ℕ) → List Note → Inner → Inner
later j ns (Refuted k ms p) = Refuted (j + k) (ns ++ ms) p
later j ns (Held k ms p) = Held (j + k) (ns ++ ms) p
later j ns (Broke k ms e) = Broke (j + k) (ns ++ ms) e
later j ns (Lasts k ms) = Lasts (j + k) (ns ++ ms)

-- how the search of a negated goal ends, by how that search ends
abbrev pub inner_end : (row : ℕ) → Ending → Inner
inner_end p NoMore = Refuted 0 [] p
inner_end p NoMoreCut = Broke 0 [] OpenNot
inner_end p Enough = Broke 0 [] Enough
inner_end p Steps = Broke 0 [] Steps
inner_end p Flexible = Broke 0 [] Flexible
inner_end p (Arithmetic f) = Broke 0 [] (Arithmetic f)
inner_end p OpenNot = Broke 0 [] OpenNot
inner_end p Deep = Broke 0 [] Deep

-- the first answer decides: one that is not final leaves open whether the goal holds. An answer of such a search is none of the run, and is no note
abbrev pub inner_after : {Task Answer : Type 0} → (State Task → Inner) → (is_final : Answer → Bool) → (row : ℕ) → Move Task Answer → Inner
inner_after go is_final p (Goes j ns s) = later j ns (go s)
inner_after go is_final p (Tells a ns s) = if is_final a then Held 0 [] p else Broke 0 [] OpenNot
inner_after go is_final p (Stops e) = inner_end p e
inner_after go is_final p (Breaks j ns e) = Broke j ns e
inner_after go is_final p (Waits j ns) = Lasts j ns

-- what comes of the search of a negated goal in at most so many small moves
abbrev pub inner : {Task Answer : Type 0} → (ℕ → Task → View Task Answer) → ℕ → (Answer → Bool) → State Task → Inner
inner look zero is_final s = Lasts 0 []
inner look (suc n) is_final s = inner_after (inner look n is_final) is_final s.row (move (inner look n) look s)

-- what a run has told: its answers, its notes, the steps taken, and its ending if it is over
pub record Told (Answer : Type 0) : Type 0 where
  pub answers : List Answer
  pub notes : List Note
  pub steps : ℕ
  pub ending : Option Ending

abbrev pub told_after : {Task Answer : Type 0} → (State Task → Told Answer) → Move Task Answer → Told Answer
told_after go (Goes k ns s) = record { answers = (go s).answers; notes = ns ++ (go s).notes; steps = k + (go s).steps; ending = (go s).ending }
told_after go (Tells a ns s) = record { answers = a ∷ (go s).answers; notes = ns ++ (go s).notes; steps = (go s).steps; ending = (go s).ending }
told_after go (Stops e) = record { answers = []; notes = []; steps = 0; ending = Some e }
told_after go (Breaks k ns e) = record { answers = []; notes = ns; steps = k; ending = Some e }
told_after go (Waits k ns) = record { answers = []; notes = ns; steps = k; ending = None }

-- at most n small moves, with at most j in each search of a negated goal
abbrev pub run : {Task Answer : Type 0} → (ℕ → Task → View Task Answer) → (j n : ℕ) → State Task → Told Answer
run look j zero s = record { answers = []; notes = []; steps = 0; ending = None }
run look j (suc n) s = told_after (run look j n) (move (inner look j) look s)
