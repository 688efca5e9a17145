use Rattle.lp_plain.specs.inner.Answering.{ArePairsFilled}
use Rattle.lp_plain.proofs.answer.filled_pairs.Given as goal

abbrev pub invariant-each : goal.invariant-each
invariant-each l = ArePairsFilled l.bindings l.fn.bank l.bank l.pairs.items l.made.items l.at
