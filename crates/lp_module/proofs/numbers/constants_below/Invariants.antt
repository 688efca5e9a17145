use Rattle.lp_module.specs.Program.{constant_in, constant_at}
use Rattle.lp_module.specs.Renumbering.{number_in}
use Rattle.lp_module.specs.inner.Tables.{AreNumbers}
use Rattle.lp_module.proofs.numbers.constants_below.Given as goal

abbrev pub invariant-loop-at : goal.invariant-loop-at
invariant-loop-at l = AreNumbers 32 l.member.hidden_constants.items l.from (λ i. constant_in l.above.module.now (number_in l.above.names.constants) (constant_at l.member i)) l.at l.numbers.items
