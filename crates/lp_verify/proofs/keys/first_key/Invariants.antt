use Rattle.std.proofs.Common.{drop}
use Rattle.lp_verify.specs.inner.Keys.{GoesOnKeys}
use Rattle.lp_verify.proofs.keys.first_key.Given as goal

abbrev pub invariant-loop-instr : goal.invariant-loop-instr
invariant-loop-instr l = GoesOnKeys l.keys l.fn.code.items (drop l.instr-index l.fn.code.items)
