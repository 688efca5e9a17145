-- The steps that a search takes until its next event, and the notes that it tells, in at most n small moves, with at most j in each search of a negated goal.
use Rattle.std.specs.Prelude.{◌≡◌, ℕ, zero, suc, ◌+◌, ◌≤◌, List, [], ◌∷◌, ◌++◌}
use Rattle.lp_model.specs.Skeleton.{Breaks, Goes, Move, Note, State, Stops, Tells, View, Waits, back_for_more, inner, move, run}

abbrev pub steps_after : {Task Answer : Type 0} → (State Task → ℕ) → Move Task Answer → ℕ
steps_after go (Goes k ns t) = k + go t
steps_after go (Tells a ns t) = 0
steps_after go (Stops e) = 0
steps_after go (Breaks k ns e) = k
steps_after go (Waits k ns) = k

abbrev pub steps_until : {Task Answer : Type 0} → (ℕ → Task → View Task Answer) → (j n : ℕ) → State Task → ℕ
steps_until look j zero s = 0
steps_until look j (suc n) s = steps_after (steps_until look j n) (move (inner look j) look s)

-- of the notes of an answer the first, which is its own: that the search goes back from it is told on the way to the event behind it
abbrev pub own_note : List Note → List Note
own_note [] = []
own_note (n ∷ ns) = n ∷ []

-- those of the moves, one after the other; that of an answer comes last
abbrev pub notes_after : {Task Answer : Type 0} → (State Task → List Note) → Move Task Answer → List Note
notes_after go (Goes k ns t) = ns ++ go t
notes_after go (Tells a ns t) = own_note ns
notes_after go (Stops e) = []
notes_after go (Breaks k ns e) = ns
notes_after go (Waits k ns) = ns

abbrev pub notes_until : {Task Answer : Type 0} → (ℕ → Task → View Task Answer) → (j n : ℕ) → State Task → List Note
notes_until look j zero s = []
notes_until look j (suc n) s = notes_after (notes_until look j n) (move (inner look j) look s)

-- behind an answer the search goes back to the newest alternative, where more answers are wanted
abbrev pub way_back : {Task : Type 0} → (given answers : ℕ) → (stack : List Task) → List Note
way_back zero n ts = []
way_back (suc g) n ts = back_for_more n ts

-- all that is told from one event on until the next one
abbrev pub notes_told : {Task Answer : Type 0} → (ℕ → Task → View Task Answer) → (j n : ℕ) → State Task → List Note
notes_told look j n s = way_back s.given s.answers s.stack ++ notes_until look j n s

-- all that a run tells from one event on
abbrev pub run_told : {Task Answer : Type 0} → (ℕ → Task → View Task Answer) → (j n : ℕ) → State Task → List Note
run_told look j n s = way_back s.given s.answers s.stack ++ (run look j n s).notes

-- from s to t the search takes so many steps and tells these notes: with enough moves in each search of a negated goal, each run on from t is, with them in front, a run
-- from s
pub record Relays {Task Answer : Type 0} (look : ℕ → Task → View Task Answer) (s : State Task) (steps : ℕ) (notes : List Note) (t : State Task) : Type 0 where
  pub enough : ℕ
  pub runs : (j : ℕ) → enough ≤ j → (k : ℕ) → (m : ℕ) × (run_told look j m s ≡ notes ++ run_told look j k t) × ((run look j m s).steps ≡ steps + (run look j k t).steps) × ((run look j m s).ending ≡ (run look j k t).ending)
