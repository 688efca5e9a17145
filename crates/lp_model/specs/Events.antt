-- A run, event by event: what a search tells next, and how events in a row make up a run.
use Rattle.std.specs.Prelude.{◌≡◌, ℕ, zero, suc, ◌≤◌, List, [], ◌++◌, Option, Some, None}
use Rattle.lp_model.specs.declared.ending.Ending.{Ending}
use Rattle.lp_model.specs.Skeleton.{View, State, Move, Goes, Tells, Stops, Breaks, Waits, move, inner, run}

-- what a search tells next
pub data Event (Answer : Type 0) : Type 0 where
  Gave : Answer → Event Answer
  Over : Ending → Event Answer

abbrev pub first_after : {Task Answer : Type 0} → State Task → (State Task → Option (Event Answer × State Task)) → Move Task Answer → Option (Event Answer × State Task)
first_after s go (Goes k ns t) = go t
first_after s go (Tells a ns t) = Some (Gave a, t)
first_after s go (Stops e) = Some (Over e, s)
first_after s go (Breaks k ns e) = Some (Over e, s)
first_after s go (Waits k ns) = None

-- the next event, if it comes in at most n small moves, with at most j in each search of a negated goal, and the state after it: a search that is over stays so
abbrev pub first : {Task Answer : Type 0} → (ℕ → Task → View Task Answer) → (j n : ℕ) → State Task → Option (Event Answer × State Task)
first look j zero s = None
first look j (suc n) s = first_after s (first look j n) (move (inner look j) look s)

-- the event comes next, and leaves the new state
pub record Advances {Task Answer : Type 0} (look : ℕ → Task → View Task Answer) (old : State Task) (event : Event Answer) (new : State Task) : Type 0 where
  pub inner_moves : ℕ
  pub moves : ℕ
  pub gives : first look inner_moves moves old ≡ Some (event, new)

-- from s the search comes to t with nothing told on the way
pub record Comes {Task Answer : Type 0} (look : ℕ → Task → View Task Answer) (s t : State Task) : Type 0 where
  pub by : (j n : ℕ) → (m : ℕ) × (first look j m s ≡ first look j n t)

-- from s these answers come one after the other, and leave t: with enough moves in each search of a negated goal, each run on from t is, with them in front, a
-- run from s
pub record Gathers {Task Answer : Type 0} (look : ℕ → Task → View Task Answer) (s : State Task) (answers : List Answer) (t : State Task) : Type 0 where
  pub enough : ℕ
  pub runs : (j : ℕ) → enough ≤ j → (k : ℕ) → (m : ℕ) × ((run look j m s).answers ≡ answers ++ (run look j k t).answers) × ((run look j m s).ending ≡ (run look j k t).ending)
