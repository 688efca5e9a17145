-- A run as the list of its moves: its answers, notes and steps are functions of that list.
use Rattle.std.specs.Prelude.{ℕ, zero, suc, List, [], ◌∷◌, None}
use Rattle.lp_model.specs.Skeleton.{View, State, Note, GoalNote, BackNote, AnswerNote, CutNote, Move, Goes, Tells, Stops, Breaks, Waits, Told, move, inner, told_after}

abbrev pub moves_after : {Task Answer : Type 0} → (State Task → List (Move Task Answer)) → Move Task Answer → List (Move Task Answer)
moves_after go (Goes k ns s) = Goes k ns s ∷ go s
moves_after go (Tells a ns s) = Tells a ns s ∷ go s
moves_after go (Stops e) = Stops e ∷ []
moves_after go (Breaks k ns e) = Breaks k ns e ∷ []
moves_after go (Waits k ns) = Waits k ns ∷ []

-- the first n moves of a search, up to its end, with at most j in each search of a negated goal
abbrev pub moves : {Task Answer : Type 0} → (ℕ → Task → View Task Answer) → (j n : ℕ) → State Task → List (Move Task Answer)
moves look j zero s = []
moves look j (suc n) s = moves_after (moves look j n) (move (inner look j) look s)

-- what a list of moves tells
abbrev pub told_of : {Task Answer : Type 0} → List (Move Task Answer) → Told Answer
told_of [] = record { answers = []; notes = []; steps = 0; ending = None }
told_of (m ∷ ms) = told_after (λ s. told_of ms) m

-- the atomic goals among notes: each is one step
abbrev pub steps_noted : List Note → ℕ
steps_noted [] = 0
steps_noted (GoalNote g ∷ ns) = suc (steps_noted ns)
steps_noted (CutNote ∷ ns) = suc (steps_noted ns)
steps_noted (BackNote ∷ ns) = steps_noted ns
steps_noted (AnswerNote k ∷ ns) = steps_noted ns

-- the numbers of the answers among notes
abbrev pub answers_noted : List Note → List ℕ
answers_noted [] = []
answers_noted (GoalNote g ∷ ns) = answers_noted ns
answers_noted (CutNote ∷ ns) = answers_noted ns
answers_noted (BackNote ∷ ns) = answers_noted ns
answers_noted (AnswerNote k ∷ ns) = k ∷ answers_noted ns

-- as many numbers as there are answers, from the one behind g on
abbrev pub numbers_after : {A : Type 0} → ℕ → List A → List ℕ
numbers_after g [] = []
numbers_after g (a ∷ more) = suc g ∷ numbers_after (suc g) more
