use Rattle.std.proofs.Common.{◌≡◌}
use Rattle.lp_verify.proofs.FirstTaken.{IsBeforeNeck}
use Rattle.lp_verify.proofs.arguments.head_length.Given as goal

abbrev pub invariant-loop-instr : goal.invariant-loop-instr
invariant-loop-instr l = (l.count ≡ l.instr-index) × IsBeforeNeck l.fn.code l.instr-index
