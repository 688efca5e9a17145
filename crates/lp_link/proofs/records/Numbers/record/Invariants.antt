use Rattle.std.proofs.Common.{take}
use Rattle.lp_link.specs.inner.Parts.{AllHaveRoom, map_in}
use Rattle.lp_link.specs.Renumbering.{AllMoved}
use Rattle.lp_link.proofs.records.Numbers.record.Given as goal

abbrev pub invariant-loop-at : goal.invariant-loop-at
invariant-loop-at l = AllHaveRoom l.fn.self.first l.fn.of.code.items → AllMoved (map_in l.fn.self) l.fn.self.first (take l.at l.fn.of.code.items) l.code.items
