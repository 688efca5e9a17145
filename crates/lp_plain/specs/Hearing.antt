-- What watchers hear: the notes of the definition's search, with the heads of goals by their names.
use Rattle.std.specs.Prelude.{◌≡◌, ◌⊎◌, ℕ, ◌-◌, ◌+◌, List, [], ◌∷◌, ◌++◌, drop, map, Option, Some, None, slice_get, codes, decimal}
use Rattle.lp_standard.specs.Constants.{first_declared, name, numbered}
use Rattle.lp_standard.specs.Numbers as number
use Rattle.lp_standard.specs.declared.constant.Constant.{Constant}
use Rattle.lp_model.specs.Skeleton.{GoalName, named, eigenconstant, variable, Note, GoalNote, BackNote, AnswerNote, CutNote, back}
use Rattle.lp_model.specs.declared.program.Declared.{Declared}
use Rattle.lp_watch.specs.Crowd.{Place, ReachesPart, crowd_after}
use Rattle.lp_watch.specs.Notes.{Event, goal, answer, cut}
use Rattle.lp_watch.specs.Notes as note
use Rattle.lp_watch.specs.Told.{crowd_after_all}
use Rattle.lp_plain.specs.declared.choice.Choice.{Choice}
use Rattle.lp_plain.specs.declared.form.Form.{Form}
use Rattle.lp_plain.specs.declared.form.Form.TheVariants as form
use Rattle.lp_plain.specs.declared.head.Head.{Head}
use Rattle.lp_plain.specs.declared.head.Head.TheVariants as head
use Rattle.lp_plain.specs.declared.machine.Machine.{Machine}
use Rattle.lp_plain.specs.declared.outcome.Turn.{Turn}
use Rattle.lp_plain.specs.Forms.{order_number}
use Rattle.lp_plain.specs.Moving.{Tally}
use Rattle.lp_plain.specs.Stacks.{base_of}

abbrev pub text_shown : Option Declared → List ℕ
text_shown None = codes "_"
text_shown (Some d) = d.shown.items

-- the text of a constant of the language; else that of a declared one
abbrev pub constant_text : List Declared → (c : ℕ) → Option Constant → List ℕ
constant_text cs c None = text_shown (slice_get cs (c - first_declared))
constant_text cs c (Some k) = name k

-- the head of a goal: a constant by its name as shown, an eigenconstant by `#` and its level, a variable by `_`
abbrev pub name_text : List Declared → GoalName → List ℕ
name_text cs (named c) = constant_text cs c (numbered c)
name_text cs (eigenconstant l) = codes "#" ++ decimal l
name_text cs variable = codes "_"

-- a note over these declared constants
abbrev pub note_in : List Declared → Note → Event
note_in cs (GoalNote n) = goal (name_text cs n)
note_in cs BackNote = note.back
note_in cs (AnswerNote k) = answer k
note_in cs CutNote = cut

-- what is seen of the watchers became so by these notes, one after the other
abbrev pub Hears : List Declared → List Note → (old new : List Place) → Type 0
Hears cs ns old new = new ≡ crowd_after_all (map (note_in cs) ns) old

-- a beginning of these notes was heard: none of them; or the first one by a first part of the watchers; or by all of them, and of the others a beginning
abbrev pub HearsPart : List Declared → List Note → (old new : List Place) → Type 0
HearsPart cs [] old new = new ≡ old
HearsPart cs (n ∷ ns) old new = (new ≡ old) ⊎ (ReachesPart (note_in cs n) old new ⊎ HearsPart cs ns (crowd_after (note_in cs n) old) new)

abbrev pub head_name : Head → GoalName
head_name (head.Constant c) = named c
head_name (head.Eigen l) = eigenconstant l

-- the head of an atomic goal by its form
abbrev pub form_name : Form → GoalName
form_name (form.Equal l r) = named number.Equal
form_name (form.Is l r) = named number.Is
form_name (form.Order o l r) = named (order_number o)
form_name (form.Call h u) = head_name h
form_name form.Flexible = variable
form_name form.Other = variable

-- the alternatives of the innermost search
abbrev pub choices_in : Machine → List Choice
choices_in m = drop (base_of m.denied) m.choices.items

-- what is told where the search goes back, if there is an alternative
abbrev pub back_in : Machine → List Note
back_in m = back [] (choices_in m)

-- so behind a turn
abbrev pub back_behind : Turn → Machine → List Note
back_behind Turn.On m = []
back_behind Turn.Back m = back_in m
back_behind Turn.Answered m = []
back_behind (Turn.Ended e) m = []

-- so many steps are counted, and these notes heard
abbrev pub HeardBy : List Declared → (old new : Machine) → (heard now : List Place) → Tally → Type 0
HeardBy cs m n old now x = (n.counts.steps ≡ m.counts.steps + x.steps) × Hears cs x.notes old now
