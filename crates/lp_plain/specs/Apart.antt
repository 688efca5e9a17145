-- Goals that are taken apart, at no step: a million of them in a row.
use Rattle.std.specs.Prelude.{◌≡◌, ◌+◌, ◌<◌, ◌≤◌}
use Rattle.lp_model.specs.declared.ending.Ending.TheVariants.{Deep}
use Rattle.lp_plain.specs.declared.machine.Counts.{Counts}
use Rattle.lp_plain.specs.declared.machine.Machine.{Machine}
use Rattle.lp_plain.specs.declared.outcome.Turn.{Turn}
use Rattle.lp_plain.specs.declared.outcome.Turn.TheVariants.{On, Ended}

-- one more in a row
abbrev pub one_apart : Counts → Counts
one_apart c = record { limit = c.limit; steps = c.steps; row = c.row + 1; lost = c.lost }

-- nothing else changes
abbrev pub apart : Machine → Machine
apart m = record {
  alloc = m.alloc;
  bank = m.bank;
  table = m.table;
  index = m.index;
  bindings = m.bindings;
  scopes = m.scopes;
  frames = m.frames;
  assumptions = m.assumptions;
  newest = m.newest;
  standings = m.standings;
  acts = m.acts;
  choices = m.choices;
  denied = m.denied;
  branch = m.branch;
  counts = one_apart m.counts;
}

-- the search goes on with one more, or ends where a million were taken apart already
abbrev pub IsApart : Turn → (old new : Counts) → Type 0
IsApart On old new = (old.row < 1000000) × (new ≡ one_apart old)
IsApart (Ended Deep) old new = (1000000 ≤ old.row) × (new ≡ old)
IsApart turn old new = ⊥
