use Rattle.lp_plain.specs.inner.Answering.{AreFilled}
use Rattle.lp_plain.proofs.answer.filled_terms.Given as goal

abbrev pub invariant-each : goal.invariant-each
invariant-each l = AreFilled l.bindings l.fn.bank l.bank l.terms.items l.made.items l.at
