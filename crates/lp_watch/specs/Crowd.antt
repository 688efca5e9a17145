-- The watchers of a run, and how one note changes them.
use Rattle.std.specs.Global.{Global}
use Rattle.std.specs.List.{flat_map}
use Rattle.std.specs.Prelude.{◌≡◌, ℕ, suc, List, [], ◌∷◌, ◌++◌, map, cond, Option, Some, None, Vec}
use Rattle.lp_watch.specs.Notes.{Event}
use Rattle.lp_watch.specs.Reports.{report_of}
use Rattle.lp_watch.specs.Seen.{Seen, seen_after, stays}

-- a place in the list that was lent: what is seen of the watcher that still stands there, or the report of one that is gone
pub data Place : Type 0 where
  here : Seen → Place
  gone : List ℕ → Place

-- a place one note later: a report stays; a watcher has the note, and stays; or it was done, and in its place stands the report that it gave then
abbrev pub after : Event → Place → Place
after e (gone text) = gone text
after e (here s) = cond (stays s.left) (here (seen_after e s)) (gone (report_of (seen_after e s)))

-- all places one note later
abbrev pub crowd_after : Event → List Place → List Place
crowd_after e places = map (after e) places

-- a note that reached a first part of the watchers: the old places are three parts; those of the first part are as they are one note later; the watchers of the second have
-- the note, and are all there; the rest is as before
abbrev pub ReachesPart : Event → List Place → List Place → Type 0
ReachesPart e old new = (first : List Place) × (second : List Seen) × (rest : List Place)
    × (old ≡ first ++ (map here second ++ rest)) × (new ≡ crowd_after e first ++ (map here (map (seen_after e) second) ++ rest))

-- all places in order, from the texts that are kept, with none for a watcher that is still there, and what is seen of the watchers.
-- A watcher for whom nothing is kept yet stands behind the others.
abbrev pub places : List (Option (Vec ℕ Global)) → List Seen → List Place
places [] seen = map here seen
places (Some text ∷ texts) seen = gone text.items ∷ places texts seen
places (None ∷ texts) [] = places texts []
places (None ∷ texts) (s ∷ seen) = here s ∷ places texts seen

-- how many places have a watcher by the kept texts
abbrev pub open_places : List (Option (Vec ℕ Global)) → ℕ
open_places [] = 0
open_places (Some text ∷ texts) = open_places texts
open_places (None ∷ texts) = suc (open_places texts)

-- what a place adds to the reports
abbrev pub text_at : Place → List ℕ
text_at (here s) = report_of s
text_at (gone text) = text

-- the reports, in the order of the places
abbrev pub reports : List Place → List ℕ
reports places = flat_map text_at places

-- what is seen of the watchers that are still there
abbrev pub still_here : List Place → List Seen
still_here [] = []
still_here (here s ∷ places) = s ∷ still_here places
still_here (gone text ∷ places) = still_here places
