use Rattle.std.proofs.Common.{◌≡◌, drop}
use Rattle.lp_code.specs.Denote.{has_neck}
use Rattle.lp_verify.proofs.whole.has_neck.Given as goal

abbrev pub invariant-loop-instr : goal.invariant-loop-instr
invariant-loop-instr l = has_neck (drop l.instr-index l.fn.code) ≡ has_neck l.fn.code
