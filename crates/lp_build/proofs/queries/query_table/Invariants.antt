use Rattle.std.proofs.Common.{take}
use Rattle.lp_fixity.specs.Table.{entry_of}
use Rattle.lp_build.specs.Queried.{DeclareEntries}
use Rattle.lp_build.proofs.queries.query_table.Given as goal

abbrev pub invariant-loop-at : goal.invariant-loop-at
invariant-loop-at l = DeclareEntries (entry_of l.initial.table) (take l.at l.entries) (entry_of l.table)
