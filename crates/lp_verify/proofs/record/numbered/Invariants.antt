use Rattle.std.proofs.Common.{◌≡◌}
use Rattle.lp_verify.specs.inner.Known.{AreAbove, AreNumbered}
use Rattle.lp_verify.proofs.record.numbered.Given as goal

abbrev pub invariant-loop-register : goal.invariant-loop-register
invariant-loop-register l = (l.number ≡ l.register-index) × (AreAbove 0 l.fn.registers → AreNumbered l.fn.registers l.register-index l.numbers)
