-- How much of a search is left: the steps and the goals in a row that may still be taken, and what its alternatives have left to try. Each turn leaves less.
use Rattle.std.specs.Prelude.{◌≡◌, ℕ, suc, ◌+◌, ◌-◌, ◌*◌, ◌^◌, ◌<◌, ◌≤◌, List, [], ◌∷◌, Option, Some, None}
use Rattle.lp_plain.specs.declared.candidates.Candidate.{Candidate}
use Rattle.lp_plain.specs.declared.candidates.Candidate.TheVariants as candidate
use Rattle.lp_plain.specs.declared.choice.Choice.{Choice}
use Rattle.lp_plain.specs.declared.choice.Untried.{Untried}
use Rattle.lp_plain.specs.declared.choice.Untried.TheVariants as untried
use Rattle.lp_plain.specs.declared.machine.Counts.{Counts}
use Rattle.lp_plain.specs.declared.machine.Machine.{Machine}
use Rattle.lp_plain.specs.declared.outcome.Turn.{Turn}
use Rattle.lp_plain.specs.Turns.{IsNoEnd}

-- no more candidates are left from one on than this: behind an assumed clause come older ones, then those of the program, whose numbers rise

abbrev pub program_rank : Option ℕ → ℕ
program_rank None = 0
program_rank (Some k) = 2 ^ 64 - k

abbrev pub assumed_rank : Option ℕ → ℕ
assumed_rank None = 2 ^ 64
assumed_rank (Some i) = 2 ^ 64 + 1 + i

abbrev pub rank : Candidate → ℕ
rank (candidate.Assumed i) = 2 ^ 64 + 1 + i
rank (candidate.Program k) = 2 ^ 64 - k

-- fewer are left from the one found on than from the one before it
abbrev pub ComesAfter : Candidate → (found : Option Candidate) → Type 0
ComesAfter c None = Unit {0}
ComesAfter c (Some d) = (rank d < rank c) × (rank d ≤ 2 ^ 65)

-- what an alternative has left to try, and what all have
abbrev pub weight : Untried → ℕ
weight (untried.Goals g) = 1
weight (untried.Clauses call c) = 1 + rank c
weight (untried.Denied d) = 1

abbrev pub total : List Choice → ℕ
total [] = 0
total (c ∷ cs) = weight c.untried + total cs

-- the steps that are left, and the goals in a row before the next one
abbrev pub remaining : Counts → ℕ
remaining c = (c.limit - c.steps) * 1000001 + (1000000 - c.row)

-- what is left at a turn
abbrev pub left_at : Machine → ℕ
left_at m = remaining m.counts * 2 ^ 68 + 2 * total m.choices.items

abbrev pub left_behind : Turn → Machine → ℕ
left_behind Turn.On m = 2 + left_at m
left_behind Turn.Back m = 1 + left_at m
left_behind Turn.Answered m = 0
left_behind (Turn.Ended e) m = 0

-- no step is taken, and at most one alternative comes
pub record MayChoose (old new : Machine) : Type 0 where
  pub counts : new.counts ≡ old.counts
  pub choices : total new.choices.items ≤ total old.choices.items + 2 ^ 66

-- a step is taken, or one more goal in a row, and at most one alternative comes
pub record IsUsed (old new : Machine) : Type 0 where
  pub counts : remaining new.counts < remaining old.counts
  pub choices : total new.choices.items ≤ total old.choices.items + 2 ^ 66

-- so in a turn that does not end the search
abbrev pub Uses : Turn → (old new : Machine) → Type 0
Uses turn old new = IsNoEnd turn → IsUsed old new

-- a candidate is tried, which comes from an alternative or not
pub record IsSpent (old new : Machine) (c : Candidate) : Type 0 where
  pub counts : new.counts ≡ old.counts
  pub fewer : total new.choices.items < total old.choices.items + (1 + rank c)
  pub choices : total new.choices.items ≤ total old.choices.items + 2 ^ 66

-- an alternative is taken
pub record IsPopped (old new : Machine) (u : Untried) : Type 0 where
  pub counts : new.counts ≡ old.counts
  pub choices : total new.choices.items + weight u ≡ total old.choices.items
