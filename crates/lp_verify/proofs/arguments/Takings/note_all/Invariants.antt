use Rattle.std.proofs.Common.{drop}
use Rattle.lp_verify.proofs.FirstTaken.{AreNotedSoFar}
use Rattle.lp_verify.proofs.arguments.Takings.note_all.Given as goal

abbrev pub invariant-loop-register : goal.invariant-loop-register
invariant-loop-register l = AreNotedSoFar l.fn.self.first l.self.first l.fn.number l.fn.registers (drop l.register-index l.fn.registers)
