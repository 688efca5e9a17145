use Rattle.std.specs.Prelude.{◌≡◌, [], nat_eq}
use Rattle.std.specs.List.{IsDistinct}
use Rattle.indexmap.specs.IndexMap.{index_map_len}
use Rattle.lp_term.specs.Nodes.{Nodes}
use Rattle.lp_gen.specs.inner.Listing.{around_of}
use Rattle.lp_gen.specs.inner.GoalCode.{AreRegisters}
use Rattle.lp_gen.specs.inner.BodyCode.{levels_found, AreStarts, started_at}
use Rattle.lp_gen.proofs.record.captured_by.Given as goal

abbrev pub invariant-loop-level : goal.invariant-loop-level
invariant-loop-level l =
    ((b : Nodes) → AreRegisters (around_of b l.environment) (levels_found (around_of b l.environment) l.yielded) l.registers.items)
    × ((b : Nodes) → l.fn.starts.entries ≡ [] → IsDistinct nat_eq l.yielded → AreStarts (around_of b l.environment)
    (levels_found (around_of b l.environment) l.yielded) (started_at b l.starts) (index_map_len l.starts))
