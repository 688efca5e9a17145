use Rattle.lp_infer.proofs.FillingBytes.{AreSpelled}
use Rattle.lp_infer.proofs.terms.bytes_of.Given as goal

abbrev pub invariant-loop-b : goal.invariant-loop-b
invariant-loop-b l = AreSpelled l.yielded l.bytes.items l.behind
