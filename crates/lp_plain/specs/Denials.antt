-- A negated goal in front: the search of it that begins inside of the search at work, and the ends to which the test on it leads.
use Rattle.std.specs.Prelude.{◌≡◌, ◌⊎◌, ◌<◌, ℕ, suc, true, false, Bool, List, [], ◌∷◌, length, Option, Some}
use Rattle.lp_model.specs.Branch.{Answer, Branch, Entry, Go, Task}
use Rattle.lp_model.specs.Flat.{Clause, Goal, Atomic, Cut, Either, Exists, Forall, Assume, Not}
use Rattle.lp_model.specs.Search.{has_no_pairs, look}
use Rattle.lp_model.specs.Skeleton.{Denies, GoalNote, Inner, Lacks, Note, named, not_constant, State, Stops, Tells, View, move, row_limit, starts_within}
use Rattle.lp_model.specs.Unify.{unit_limit}
use Rattle.lp_model.specs.declared.ending.Ending.TheVariants.{Deep, OpenNot}
use Rattle.lp_plain.specs.declared.choice.Denial.{Denial}
use Rattle.lp_plain.specs.declared.choice.Untried.{Untried}
use Rattle.lp_plain.specs.declared.frame.Place.{Place}
use Rattle.lp_plain.specs.declared.machine.Counts.{Counts}
use Rattle.lp_plain.specs.declared.machine.Machine.{Machine}
use Rattle.lp_plain.specs.declared.outcome.Turn.{Turn}
use Rattle.lp_plain.specs.Assuming.{HasFrameAt, KeepsAssumed}
use Rattle.lp_plain.specs.Entries.{Around, HasAlternative, IsListAt, KeepsGoals, Reads, placed}
use Rattle.lp_plain.specs.Moving.{IsBack, IsState, Leads, Query, Tally, Waiting, taking}
use Rattle.lp_plain.specs.Negations.{denial}
use Rattle.lp_plain.specs.Reached.{HasSmallFirst}
use Rattle.lp_plain.specs.Searching.{last_ending}
use Rattle.lp_plain.specs.Within.{StandsIn}

-- a cut has removed an alternative or not
abbrev pub with_lost : Counts → Bool → Counts
with_lost c b = record c { lost = b }

-- the search of the goals of a list has begun: they are in front, in their place, of a branch without residual pairs, in which a cut keeps the alternatives of now;
-- the newest one leads back to the goals behind
pub record IsBegun (old new : Machine) (p : Place) (list : ℕ) (behind : Option ℕ) : Type 0 where
  pub goals : KeepsGoals old new
  pub assumed : KeepsAssumed old new
  pub mark : ℕ
  pub mark_is : mark ≡ length new.choices.items
  pub frame : HasFrameAt old new (record p { mark = mark })
  pub stands : StandsIn old → StandsIn new
  pub more : HasAlternative old new (Untried.Denied (denial old behind))
  pub inside : new.denied ≡ Some (length old.choices.items)
  pub counts : new.counts ≡ with_lost old.counts false
  pub next : new.branch.next ≡ old.branch.next
  pub next_type : new.branch.next_type ≡ old.branch.next_type
  pub pairs : new.branch.pairs.items ≡ []
  pub reads : (a : Around) (gs : List Goal) → IsListAt old p list gs → Reads new a new.branch.goals (placed a (record p { mark = mark }) gs)

-- the query of a negated goal's search: no variable is asked for
abbrev pub inner_query : Query → Waiting → Query
inner_query qv w = record { types = 0; vars = 0; arity = qv.arity; outer = w ∷ qv.outer }

-- the search of the state, as it waits to go on with the branch above the tasks below it
abbrev pub waits_at : Query → State Task → (left : ℕ) → Branch → List Task → Waiting
waits_at qv s left b rest = record { types = qv.types; vars = qv.vars; left = left; given = s.given; lost = s.lost; branch = b; rest = rest }

-- a look comes to this view, or lacks steps
abbrev pub IsSeenAs : (seen is : View Task Answer) → Type 0
IsSeenAs v w = (v ≡ w) ⊎ (v ≡ Lacks)

-- in this state of the definition a negated goal is in front, whose search begins, and the machine is in the state in which it begins
pub record IsDenying (qv : Query) (n : Machine) (s : State Task) : Type 0 where
  pub steps : ℕ
  pub task : Task
  pub inside : Task
  pub branch : Branch
  pub rest : List Task
  pub stack : s.stack ≡ task ∷ rest
  pub there : s.steps ≡ suc steps
  pub rows : s.rows ≡ row_limit
  pub seen : (enough : ℕ) (P : List Clause) → IsSeenAs (look unit_limit enough P (length rest) task) (Denies inside has_no_pairs (Go branch ∷ []))
  pub begun : (left : ℕ) → IsState (inner_query qv (waits_at qv s left branch rest)) n (starts_within s.rows inside steps 1)

-- a negated goal
abbrev pub IsDeniedGoal : Goal → Type 0
IsDeniedGoal (Atomic t) = ⊥
IsDeniedGoal Cut = ⊥
IsDeniedGoal (Either gs hs) = ⊥
IsDeniedGoal (Exists T gs) = ⊥
IsDeniedGoal (Forall T gs) = ⊥
IsDeniedGoal (Assume w cs gs) = ⊥
IsDeniedGoal (Not w gs) = Unit {0}

abbrev pub IsDeniedFirst : List Entry → Type 0
IsDeniedFirst [] = ⊥
IsDeniedFirst (e ∷ es) = IsDeniedGoal e.goal

-- where the turn is too deep, fewer than a million steps are allowed for each look, and what the test looks at is small
abbrev pub AreFewDenied : Turn → (enough : ℕ) → List Entry → Type 0
AreFewDenied turn enough es = turn ≡ Turn.Ended Deep → (enough < 1000000) × HasSmallFirst es

-- the definition's search comes to this turn in at most two moves, while answers are wanted
abbrev pub EndsDenied : Tally → Query → Turn → (new : Machine) → (before : State Task) → List Entry → Type 0
EndsDenied x qv turn n s es = (k : ℕ) → s.answers ≡ suc k → (go : (Answer → Bool) → State Task → Inner) (enough : ℕ) → AreFewDenied turn enough es →
    (P : List Clause) → Leads 1 x qv turn n go (look unit_limit enough P) s

-- the turn of a negated goal, with so much told, in front of those of the definition's branch: its search begins, or the whole search ends
abbrev pub TakesDenied : Tally → Turn → Query → (new : Machine) → (before : State Task) → List Entry → Type 0
TakesDenied x Turn.On qv n s es = (x ≡ taking (GoalNote (named not_constant))) × IsDenying qv n s
TakesDenied x Turn.Back qv n s es = ⊥
TakesDenied x Turn.Answered qv n s es = ⊥
TakesDenied x (Turn.Ended e) qv n s es = EndsDenied x qv (Turn.Ended e) n s es

-- the search of a negated goal has come to its end

-- a search with the alternatives, the search at work and the counts of another one
abbrev pub searching_as : Machine → Machine → Machine
searching_as m x = record m { choices = x.choices; denied = x.denied; counts = x.counts }

-- no alternative of it is left: the search is again the one around it, and goes on behind the negated goal
abbrev pub goes_around : Machine → Denial → Machine
goes_around m d = record m { denied = d.around; counts = with_lost m.counts d.lost; branch = record m.branch { goals = d.behind } }

-- the query of a search that waited
abbrev pub waiting_query : (arity : ℕ → ℕ) → Waiting → List Waiting → Query
waiting_query ar w ws = record { types = w.types; vars = w.vars; arity = ar; outer = ws }

-- it goes on with these tasks, with the steps and the goals in a row that are left
abbrev pub woken : Waiting → (steps row : ℕ) → List Task → State Task
woken w n p ts = record { steps = n; answers = suc w.left; given = w.given; rows = row_limit; row = p; lost = w.lost; stack = ts }

-- a final answer: the search that waited is to go back; another one: the whole search ends
abbrev pub IsHeldTurn : (final : Bool) → Turn → (new : Machine) → (arity : ℕ → ℕ) → State Task → Waiting → List Waiting → Type 0
IsHeldTurn true Turn.Back n ar s w ws = IsBack (waiting_query ar w ws) n (woken w s.steps s.row w.rest)
IsHeldTurn false (Turn.Ended OpenNot) n ar s w ws = Unit {0}
IsHeldTurn b turn n ar s w ws = ⊥

-- in this state of the definition the search of a negated goal has an answer
pub record IsHeldBy (qv : Query) (turn : Turn) (n : Machine) (s : State Task) : Type 0 where
  pub waiting : Waiting
  pub others : List Waiting
  pub outer : qv.outer ≡ waiting ∷ others
  pub answer : Answer
  pub tells : (k : ℕ) → s.answers ≡ suc k → (ns : List Note) × (t : State Task) × ((go : (Answer → Bool) → State Task → Inner) (enough : ℕ)
      (P : List Clause) → move go (look unit_limit enough P) s ≡ Tells answer ns t)
  pub comes : IsHeldTurn (has_no_pairs answer) turn n qv.arity s waiting others

-- no alternative is left, and none was cut away: the search that waited goes on behind the goal; one was: the whole search ends
abbrev pub IsRefutedTurn : (lost : Bool) → Turn → (new : Machine) → (arity : ℕ → ℕ) → State Task → Waiting → List Waiting → Type 0
IsRefutedTurn false Turn.On n ar s w ws = IsState (waiting_query ar w ws) n (woken w s.steps s.row (Go w.branch ∷ w.rest))
IsRefutedTurn true (Turn.Ended OpenNot) n ar s w ws = Unit {0}
IsRefutedTurn b turn n ar s w ws = ⊥

-- in this state of the definition the search of a negated goal has none left
pub record IsRefutedBy (qv : Query) (turn : Turn) (n : Machine) (s : State Task) : Type 0 where
  pub waiting : Waiting
  pub others : List Waiting
  pub outer : qv.outer ≡ waiting ∷ others
  pub lost : Bool
  pub stops : (k : ℕ) → s.answers ≡ suc k → (go : (Answer → Bool) → State Task → Inner) (enough : ℕ) (P : List Clause) → move go (look unit_limit enough P) s ≡ Stops (last_ending lost)
  pub comes : IsRefutedTurn lost turn n qv.arity s waiting others
