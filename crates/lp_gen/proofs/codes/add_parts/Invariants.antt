use Rattle.std.proofs.Common.{◌≡◌, ◌++◌, ◌<◌, ◌^◌, List, []}
use Rattle.std.specs.Prelude.{All, sum_by, take}
use Rattle.lp_code.specs.declared.record.Record.{Record}
use Rattle.lp_code.specs.Length.{length_of, AllFit}
use Rattle.lp_gen.specs.inner.Groups.{AllWritten}
use Rattle.lp_gen.proofs.codes.add_parts.Given as goal

abbrev pub invariant-loop-at : goal.invariant-loop-at
invariant-loop-at l =
    AllFit l.records.items × All (λ r. sum_by length_of r.code.items < 2 ^ 32) l.records.items
    × ((g : List Record) × (l.records.items ≡ l.fn.records.items ++ g) × AllWritten l.tables [] l.starts.items (take l.at l.parts) g)
