use Rattle.std.proofs.Common.{take}
use Rattle.lp_fixity.specs.Table.{entry_of}
use Rattle.lp_build.specs.Sights.{DeclareAll}
use Rattle.lp_build.proofs.texts.declare_all.Given as goal

abbrev pub invariant-loop-at : goal.invariant-loop-at
invariant-loop-at l = DeclareAll l.file.text.bytes.items (entry_of l.fn.table) (take l.at l.file.text.references.fixities.items) (entry_of l.table)
