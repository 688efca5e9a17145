use Rattle.std.proofs.Common.{drop, length}
use Rattle.lp_plain.specs.inner.Looking.{weight_of_all}
use Rattle.lp_plain.specs.inner.Tabling.{list_weight, AreFilled, AreTermsIn}
use Rattle.lp_plain.proofs.table.Table.fill.Given as goal

abbrev pub invariant-lists : goal.invariant-lists
invariant-lists l = AreFilled l.bank l.fn.first l.fn.self l.self l.fn.waiting.items l.waiting.items l.done × (AreTermsIn (length l.bank.terms) l.fn.self l.fn.waiting.items → AreTermsIn (length l.bank.terms) l.self l.waiting.items)

abbrev pub decreases-lists : goal.decreases-lists
decreases-lists l = weight_of_all (list_weight l.bank) (drop l.done l.waiting.items)
