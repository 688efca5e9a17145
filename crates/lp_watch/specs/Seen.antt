-- What contracts see of a watcher, and how notes change it.
use Rattle.std.specs.Prelude.{ℕ, ◌+◌, ◌-◌, ◌^◌, min, List, [], ◌∷◌, ◌++◌, Option, Some, None, option_map, Bool, true, nat_lt}
use Rattle.lp_watch.specs.Notes.{Event, goal, back, answer, cut}

-- how many notes of each kind
pub record Counts : Type 0 where
  pub goals : ℕ
  pub backs : ℕ
  pub answers : ℕ
  pub cuts : ℕ

-- no note
abbrev pub no_counts : Counts
no_counts = record { goals = 0; backs = 0; answers = 0; cuts = 0 }

-- a count that stays at the greatest number of 64 bits
abbrev pub one_more : ℕ → ℕ
one_more n = min (n + 1) (2 ^ 64 - 1)

-- the counts one note later
abbrev pub count : Counts → Event → Counts
count t (goal name) = record t { goals = one_more t.goals }
count t back = record t { backs = one_more t.backs }
count t (answer k) = record t { answers = one_more t.answers }
count t cut = record t { cuts = one_more t.cuts }

-- what is seen of a watcher: its tally of the notes; the notes, where it tells them; how many notes it still takes, or none where it takes all; and how its report is made of its
-- tally and its notes
pub record Seen : Type 0 where
  pub tally : Counts
  pub told : Option (List Event)
  pub left : Option ℕ
  pub shows : Counts → Option (List Event) → List ℕ

-- one note later: it is counted, told at the end, and one fewer is taken
abbrev pub seen_after : Event → Seen → Seen
seen_after e s = record { tally = count s.tally e; told = option_map (λ notes. notes ++ e ∷ []) s.told; left = option_map (λ n. n - 1) s.left; shows = s.shows }

-- the watcher takes more notes after the next one: it takes all, or more than one
abbrev pub stays : Option ℕ → Bool
stays None = true
stays (Some n) = nat_lt 1 n
