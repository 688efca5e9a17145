-- The lines of reports.
use Rattle.std.specs.Prelude.{ℕ, List, [], Option, Some, None, ◌++◌, codes, decimal}
use Rattle.std.specs.List.{flat_map}
use Rattle.lp_watch.specs.Notes.{Event, goal, back, answer, cut}
use Rattle.lp_watch.specs.Seen.{Counts, Seen}

-- the line of one note
abbrev pub line_of : Event → List ℕ
line_of (goal name) = codes "goal " ++ name ++ codes "\n"
line_of back = codes "back\n"
line_of (answer k) = codes "answer " ++ decimal k ++ codes "\n"
line_of cut = codes "cut\n"

-- the line of the four counts
abbrev pub counts_line : Counts → List ℕ
counts_line t = codes "goals " ++ decimal t.goals ++ codes ", backs " ++ decimal t.backs ++ codes ", answers " ++ decimal t.answers ++ codes ", cuts " ++ decimal t.cuts ++ codes "\n"

-- the two ways of this crate: the line of the counts, and a line for each note that is told
abbrev pub shows_counts : Counts → Option (List Event) → List ℕ
shows_counts t told = counts_line t

abbrev pub shows_notes : Counts → Option (List Event) → List ℕ
shows_notes t None = []
shows_notes t (Some notes) = flat_map line_of notes

-- the report of a watcher
abbrev pub report_of : Seen → List ℕ
report_of s = s.shows s.tally s.told
