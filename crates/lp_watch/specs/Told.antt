-- Many notes, one after the other.
use Rattle.std.specs.Prelude.{ℕ, zero, suc, List, [], ◌∷◌, length, take, cond, Option, Some, None, Bool, true, nat_lt}
use Rattle.lp_watch.specs.Notes.{Event}
use Rattle.lp_watch.specs.Reports.{report_of}
use Rattle.lp_watch.specs.Seen.{Counts, Seen, count, seen_after}
use Rattle.lp_watch.specs.Crowd.{crowd_after, Place, here, gone}

-- the counts after these notes
abbrev pub count_all : Counts → List Event → Counts
count_all t [] = t
count_all t (e ∷ notes) = count_all (count t e) notes

-- what is seen of a watcher that took these notes
abbrev pub seen_after_all : List Event → Seen → Seen
seen_after_all [] s = s
seen_after_all (e ∷ notes) s = seen_after_all notes (seen_after e s)

-- all places after these notes
abbrev pub crowd_after_all : List Event → List Place → List Place
crowd_after_all [] places = places
crowd_after_all (e ∷ notes) places = crowd_after_all notes (crowd_after e places)

-- the watcher is still there after so many notes: there was none, or it takes all, or more than so many
abbrev pub stays_for : ℕ → Option ℕ → Bool
stays_for zero left = true
stays_for (suc k) None = true
stays_for (suc k) (Some n) = nat_lt (suc k) n

-- the notes that a watcher takes of these: all, or so many, and at least one
abbrev pub taken : List Event → Option ℕ → List Event
taken notes None = notes
taken notes (Some zero) = take 1 notes
taken notes (Some (suc n)) = take (suc n) notes

-- a place after these notes: a report stays; a watcher has them all, and stays; or it was done at one of them, and in its place stands the report that it gave then
abbrev pub after_all : List Event → Place → Place
after_all notes (gone text) = gone text
after_all notes (here s) = cond (stays_for (length notes) s.left) (here (seen_after_all notes s)) (gone (report_of (seen_after_all (taken notes s.left) s)))
