-- What a note says, without the reference to its bytes.
use Rattle.std.specs.Prelude.{ℕ, List}
use Rattle.lp_watch.specs.declared.note.Note.{Note}
use Rattle.lp_watch.specs.declared.note.Note.TheVariants.{Goal, Back, Answer, Cut}

-- a note of the search: a goal whose head has that name, a way back, an answer of that number, a cut
pub data Event : Type 0 where
  goal : List ℕ → Event
  back : Event
  answer : ℕ → Event
  cut : Event

abbrev pub event_of : Note → Event
event_of (Goal name) = goal name.now
event_of Back = back
event_of (Answer k) = answer k
event_of Cut = cut
