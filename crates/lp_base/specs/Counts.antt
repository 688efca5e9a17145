-- Counts of the answers of one kind, kept in 64 bits.
use Rattle.std.specs.Prelude.{ℕ, ◌+◌, ◌^◌, ◌<◌, ◌≤◌, ◌⊎◌}

-- the count rose, or stands at the greatest number of 64 bits, where it cannot
abbrev pub HasRisen : ℕ → ℕ → Type 0
HasRisen old new = (old < new) ⊎ (2 ^ 64 ≤ old + 1)

-- a count of these answers never falls, rises in no other answer, and has risen after such an answer
pub record Counts (answered : Type 0) (old new : ℕ) : Type 0 where
  pub never_falls : old ≤ new
  pub rises_only_then : old < new → answered
  pub risen : answered → HasRisen old new
