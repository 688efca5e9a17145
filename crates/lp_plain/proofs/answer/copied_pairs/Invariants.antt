use Rattle.lp_plain.specs.inner.Answering.{ArePairsCopied}
use Rattle.lp_plain.proofs.answer.copied_pairs.Given as goal

abbrev pub invariant-each : goal.invariant-each
invariant-each l = ArePairsCopied l.from l.fn.to l.to l.fn.copies l.copies l.pairs.items l.made.items l.at
