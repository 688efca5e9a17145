-- What the watchers of this crate keep.
use Rattle.lp_watch.specs.declared.tally.Tally.{Tally}
use Rattle.lp_watch.specs.declared.tracer.Kept.{Kept}
use Rattle.lp_watch.specs.declared.tracer.Kept.TheVariants.{Goal, Back, Answer, Cut}
use Rattle.lp_watch.specs.Notes.{Event, goal, back, answer, cut}
use Rattle.lp_watch.specs.Seen.{Counts}

abbrev pub counts_of : Tally → Counts
counts_of t = record { goals = t.goals; backs = t.backs; answers = t.answers; cuts = t.cuts }

abbrev pub kept_event : Kept → Event
kept_event (Goal name) = goal name.items
kept_event Back = back
kept_event (Answer k) = answer k
kept_event Cut = cut
