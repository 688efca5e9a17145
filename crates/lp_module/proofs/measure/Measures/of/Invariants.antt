use Rattle.std.proofs.Common.{◌≡◌, length}
use Rattle.lp_module.specs.inner.Judging.{AreMeasured}
use Rattle.lp_module.proofs.measure.Measures.of.Given as goal

abbrev pub invariant-loop-at : goal.invariant-loop-at
invariant-loop-at l = AreMeasured l.bank l.self × (length l.self.measured.items ≡ l.at)
