use Rattle.std.proofs.Common.{◌≡◌, drop}
use Rattle.std.specs.List.{list_any}
use Rattle.lp_verify.specs.inner.Told.{is_loose}
use Rattle.lp_verify.proofs.record.Work.are_loose.Given as goal

abbrev pub invariant-loop-register : goal.invariant-loop-register
invariant-loop-register l = list_any (is_loose l.fn.shared.lists l.fn.self.terms) (drop l.register-index l.fn.registers) ≡ list_any (is_loose l.fn.shared.lists l.fn.self.terms) l.fn.registers
