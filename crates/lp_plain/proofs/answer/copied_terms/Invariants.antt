use Rattle.lp_plain.specs.inner.Answering.{AreCopied}
use Rattle.lp_plain.proofs.answer.copied_terms.Given as goal

abbrev pub invariant-each : goal.invariant-each
invariant-each l = AreCopied l.from l.fn.to l.to l.fn.copies l.copies l.terms.items l.made.items l.at
