-- The numbers of names in an image.
use Rattle.std.specs.Prelude.{ℕ, ◌-◌, nat_lt, if◌then◌else◌, List, slice_index_or}

-- the numbers below the first one are those of the language; a number without a place becomes one that no name has
abbrev pub renumbered : (first : ℕ) → (numbers : List ℕ) → ℕ → ℕ
renumbered first numbers n = if nat_lt n first then n else slice_index_or numbers (n - first) 4294967295
