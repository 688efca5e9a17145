-- What the definition's search tells next, followed by the turns of the search: what stands at each turn until it is told.
use Rattle.std.specs.Prelude.{◌≡◌, ℕ, suc, ◌-◌, ◌<◌, List, [], ◌∷◌, ◌++◌}
use Rattle.lp_model.specs.Branch.{Answer, Go, Task}
use Rattle.lp_model.specs.Events.{Advances, Event, Gave, Over}
use Rattle.lp_model.specs.Flat.{Clause}
use Rattle.lp_model.specs.Search.{has_no_pairs, look}
use Rattle.lp_model.specs.Skeleton.{AnswerNote, Broke, back, Held, Inner, Lasts, Refuted, State, View, inner, row_limit}
use Rattle.lp_model.specs.Unify.{unit_limit}
use Rattle.lp_model.specs.declared.program.Declared.{Declared as Named}
use Rattle.lp_model.specs.declared.ending.Ending.{Ending}
use Rattle.lp_model.specs.declared.ending.Ending.TheVariants.{Deep}
use Rattle.lp_watch.specs.Crowd.{Place}
use Rattle.lp_plain.specs.declared.events.Told.{Told}
use Rattle.lp_plain.specs.declared.machine.Machine.{Machine}
use Rattle.lp_plain.specs.declared.outcome.Turn.{Turn}
use Rattle.lp_plain.specs.Between.{HasClauses}
use Rattle.lp_plain.specs.Hearing.{HeardBy, back_in}
use Rattle.lp_plain.specs.Moving.{IsAnswer, IsAnswered, IsBack, IsState, Query, Tally, Waiting, both, quiet}
use Rattle.lp_plain.specs.Reached.{HasSmallGoal, IsReached}
use Rattle.lp_plain.specs.Stepping.{notes_told, notes_until, steps_until}
use Rattle.lp_plain.specs.TypedStates.{IsTypedOver}

-- the next event of the definition's search of a query over these clauses, with so many steps for each look, where so many answers are left behind it and were given
-- before it, the state from which it comes, and the state behind it
pub record Course : Type 0 where
  pub query : Query
  pub program : List Clause
  pub enough : ℕ
  pub left : ℕ
  pub given : ℕ
  pub begin : State Task
  pub event : Event Answer
  pub after : State Task

abbrev pub seen_in : Course → ℕ → Task → View Task Answer
seen_in c = look unit_limit c.enough c.program

-- what is counted and told until the next event
abbrev pub until : (ℕ → Task → View Task Answer) → (j n : ℕ) → State Task → Tally
until see j n s = record { steps = steps_until see j n s; notes = notes_until see j n s }

-- so from one event on
abbrev pub tally_told : (ℕ → Task → View Task Answer) → (j n : ℕ) → State Task → Tally
tally_told see j n s = record { steps = steps_until see j n s; notes = notes_told see j n s }

-- a search that waited goes on, with these steps, goals in a row and tasks
abbrev pub goes_on : Waiting → (steps row : ℕ) → List Task → State Task
goes_on w n p ts = record { steps = n; answers = suc w.left; given = w.given; rows = row_limit; row = p; lost = w.lost; stack = ts }

-- what came of the search of a negated goal, which had so many steps left, and then of the search that waited for it: with what is still told until the event
abbrev pub ComesOf : Course → (behind : Tally → State Task → Type 0) → Waiting → (steps : ℕ) → Tally → Inner → Type 0
ComesOf c behind w n x (Refuted k ns p) = (y : Tally) × (x ≡ both (record { steps = k; notes = ns }) y) × behind y (goes_on w (n - k) p (Go w.branch ∷ w.rest))
ComesOf c behind w n x (Held k ns p) = (y : Tally) × (x ≡ both (record { steps = k; notes = ns ++ back [] w.rest }) y) × behind y (goes_on w (n - k) p w.rest)
ComesOf c behind w n x (Broke k ns e) = (c.event ≡ Over e) × (x ≡ record { steps = k; notes = ns })
ComesOf c behind w n x (Lasts k ns) = ⊥

-- what each state that is followed has: what is reached from it is reached from the first one, and it is typed
abbrev pub Kept : Course → State Task → Type 0
Kept c s = ((u : State Task) → IsReached (seen_in c) s u → IsReached (seen_in c) c.begin u) × IsTypedOver c.query.arity c.enough c.program s

-- where the turn is too deep, fewer than a million steps are allowed for each look, and the expressions of all goals on the way are small
abbrev pub AreFewOn : Course → Turn → Type 0
AreFewOn c turn = turn ≡ Turn.Ended Deep → (c.enough < 1000000) × ((u : State Task) → IsReached (seen_in c) c.begin u → HasSmallGoal u.stack)

-- the event is what comes of the search at work, and then of those that wait for it, with so much told until then
abbrev pub Comes : Course → List Waiting → Tally → State Task → Type 0
Comes c [] x s = (s.answers ≡ suc c.left) × (s.given ≡ c.given) × Kept c s × (d : Advances (seen_in c) s c.event c.after) × (x ≡ until (seen_in c) d.inner_moves d.moves s)
Comes c (w ∷ ws) x s = (s.answers ≡ 1) × Kept c s × (j : ℕ) × ComesOf c (λ y t. Comes c ws y t) w s.steps x (inner (seen_in c) j has_no_pairs s)

-- the outermost search is that of the query; one of a negated goal has no variables to answer for
abbrev pub IsInQuery : Query → (types vars : ℕ) → List Waiting → Type 0
IsInQuery q j k [] = (j ≡ q.types) × (k ≡ q.vars)
IsInQuery q j k (w ∷ ws) = (j ≡ 0) × (k ≡ 0) × IsInQuery q w.types w.vars ws

abbrev pub IsOfQuery : Query → Query → Type 0
IsOfQuery q qv = (qv.arity ≡ q.arity) × IsInQuery q qv.types qv.vars qv.outer

-- what stands at a turn: the search is in a state of the definition's, or is to go back, and the event comes of it; or it is told. So much is still to be told, behind the way back if the search is to go back. All in the search is written, and the program's clauses stand in it
abbrev pub Stands : Course → Tally → Turn → Machine → Type 0
Stands c x Turn.On m = (qv : Query) × (s : State Task) × IsOfQuery c.query qv × IsState qv m s × Comes c qv.outer x s × HasClauses c.program c.query.arity m
Stands c x Turn.Back m = (qv : Query) × (s : State Task) × IsOfQuery c.query qv × IsBack qv m s × Comes c qv.outer x s × HasClauses c.program c.query.arity m
Stands c x Turn.Answered m = (qv : Query) × (a : Answer) × (x ≡ record { steps = 0; notes = AnswerNote (suc c.given) ∷ [] }) × IsOfQuery c.query qv × (qv.outer ≡ []) × (c.event ≡ Gave a) × IsAnswer qv m a × IsAnswered qv
    m c.after × (c.after.answers ≡ c.left) × (c.after.given ≡ suc c.given) × IsTypedOver c.query.arity c.enough c.program c.after × HasClauses c.program c.query.arity m
Stands c x (Turn.Ended e) m = AreFewOn c (Turn.Ended e) → (c.event ≡ Over e) × (x ≡ quiet)

-- the turn behind which something is told
abbrev pub turn_told : Told → Turn
turn_told Told.Answered = Turn.Answered
turn_told (Told.Ended e) = Turn.Ended e

-- all was told until the end
abbrev pub IsTold : Course → (before now : Tally) → Ending → Type 0
IsTold c x y e = AreFewOn c (Turn.Ended e) → (c.event ≡ Over e) × (x ≡ y)

-- of what was to be told before a turn so much was told in it; the rest is still to be told, where that of the way back comes first
abbrev pub Leaves : Course → (before now : Tally) → Turn → (new : Machine) → Type 0
Leaves c x y Turn.On n = (z : Tally) × (x ≡ both y z) × Stands c z Turn.On n
Leaves c x y Turn.Back n = (z : Tally) × (x ≡ both y (both (record { steps = 0; notes = back_in n }) z)) × Stands c z Turn.Back n
Leaves c x y Turn.Answered n = (z : Tally) × (x ≡ both y z) × Stands c z Turn.Answered n
Leaves c x y (Turn.Ended e) n = IsTold c x y e

-- so with that of the way back told
abbrev pub Rests : Course → (before now : Tally) → Turn → (new : Machine) → Type 0
Rests c x y Turn.On n = (z : Tally) × (x ≡ both y z) × Stands c z Turn.On n
Rests c x y Turn.Back n = (z : Tally) × (x ≡ both y z) × Stands c z Turn.Back n
Rests c x y Turn.Answered n = (z : Tally) × (x ≡ both y z) × Stands c z Turn.Answered n
Rests c x y (Turn.Ended e) n = IsTold c x y e

-- a turn of this course was taken: what was heard in it, and what stands behind it
abbrev pub Follows : Course → (constants : List Named) → Tally → (old new : Machine) → (heard now : List Place) → Turn → Type 0
Follows c cs x m n old now turn = (y : Tally) × HeardBy cs m n old now y × Leaves c x y turn n

abbrev pub Passes : Course → (constants : List Named) → Tally → (old new : Machine) → (heard now : List Place) → Turn → Type 0
Passes c cs x m n old now turn = (y : Tally) × HeardBy cs m n old now y × Rests c x y turn n
