use Rattle.lp_module.specs.Program.{kind_in, kind_at}
use Rattle.lp_module.specs.Renumbering.{number_in}
use Rattle.lp_module.specs.inner.Tables.{AreNumbers}
use Rattle.lp_module.proofs.numbers.kinds_below.Given as goal

abbrev pub invariant-loop-at : goal.invariant-loop-at
invariant-loop-at l = AreNumbers 8 l.member.hidden_kinds.items l.from (λ i. kind_in l.above.module.now (number_in l.above.names.kinds) (kind_at l.member i)) l.at l.numbers.items
