use Rattle.std.proofs.Common.{◌≡◌, ℕ, List}
use Rattle.std.specs.Prelude.{Contains}
use Rattle.lp_fixity.specs.Table.{entry_of, standard}
use Rattle.lp_build.specs.Sights.{InForce}
use Rattle.lp_build.proofs.texts.declare_seen.Given as goal

abbrev pub invariant-loop-other : goal.invariant-loop-other
invariant-loop-other l = ((name : List ℕ) → entry_of l.fn.table name ≡ standard name) → InForce l.sources.files.items (Contains l.seen.keys) l.other (entry_of l.table)
