-- What a cut leaves: the oldest alternatives, as many as its mark says, and whether it removed one.
use Rattle.std.specs.Prelude.{◌≡◌, ℕ, ◌+◌, ◌≤◌, ◌||◌, Bool, length, nat_lt, take, Option}
use Rattle.lp_model.specs.declared.ending.Ending.TheVariants.{Steps}
use Rattle.lp_model.specs.Branch.{Branch}
use Rattle.lp_plain.specs.declared.machine.Counts.{Counts}
use Rattle.lp_plain.specs.declared.machine.Machine.{Machine}
use Rattle.lp_plain.specs.declared.outcome.Turn.{Turn}
use Rattle.lp_plain.specs.declared.outcome.Turn.TheVariants.{On, Ended}
use Rattle.lp_plain.specs.Entries.{Around, IsBehind, IsBranchAt}

-- one step more, which begins a new row
abbrev pub one_step : Counts → Counts
one_step c = record { limit = c.limit; steps = c.steps + 1; row = 0; lost = c.lost }

-- a search with one step more
abbrev pub stepped : Machine → Machine
stepped m = record m { counts = one_step m.counts }

-- whether an alternative was removed now or before
abbrev pub cut_off : Counts → Bool → Counts
cut_off c b = record { limit = c.limit; steps = c.steps; row = c.row; lost = c.lost || b }

-- a cut with this mark is one step, and its branch goes on with the goals behind it
pub record Cuts (old new : Machine) (mark : ℕ) (behind : Option ℕ) : Type 0 where
  pub choices : new.choices.items ≡ take mark old.choices.items
  pub counts : new.counts ≡ cut_off (one_step old.counts) (nat_lt mark (length old.choices.items))
  pub branch : (a : Around) (b : Branch) → IsBehind old a behind b → IsBranchAt new a b

-- so, once a step may be taken
abbrev pub CutsOff : Turn → (old new : Machine) → (mark : ℕ) → (behind : Option ℕ) → Type 0
CutsOff On old new mark behind = Cuts old new mark behind
CutsOff (Ended Steps) old new mark behind = old.counts.limit ≤ old.counts.steps
CutsOff turn old new mark behind = ⊥
