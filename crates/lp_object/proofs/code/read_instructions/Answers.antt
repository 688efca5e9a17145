use Rattle.std.proofs.Common.{arith}
use Rattle.std.proofs.lemmas.Result.{err_from_is_err_and}
use Rattle.lp_object.proofs.Pushed.{instruction_fits}
use Rattle.lp_object.proofs.Turns.{instr_read, instr_fails, instrs_over, instrs_done}
use Rattle.lp_object.proofs.code.read_instructions.Goals as goal

pub loop-preserved : goal.loop-preserved
loop-preserved c = (
  instruction_fits _ c.push.new.self.items c.in_ok-instr.instr c.in_ok-push.ensures.items c.loop.invariant.0 c.in_ok-instr.ensures.fits,
  instr_read c.args.width c.args.behind _ c.push.new.self.items c.in_ok-instr.instr _ _ _ _ _ c.in_ok-push.ensures.items c.loop-test.true (omega (arith, c.if-len-behind.false, c.len.ensures)) c.in_ok-instr.ensures.read c.loop.invariant.1,
)

pub returns-in_err-instr-clause-read : goal.returns-in_err-instr-clause-read
returns-in_err-instr-clause-read c =
    let p = err_from_is_err_and c.from_residual.result c.from_residual.ensures.1 in
    rw (p.1, p.2) (instr_fails c.args.width c.args.behind _ _ _ _ _ _ c.loop-test.true (omega (arith, c.if-len-behind.false, c.len.ensures)) c.in_err-instr.ensures.read c.loop.invariant.1)

pub returns-then-len-behind-clause-read : goal.returns-then-len-behind-clause-read
returns-then-len-behind-clause-read c = instrs_over c.args.width c.args.behind _ _ _ _ _ c.loop-test.true (omega (arith, c.if-len-behind.true, c.len.ensures)) c.loop.invariant.1

pub returns-clause-read : goal.returns-clause-read
returns-clause-read c = instrs_done c.args.width c.args.behind _ _ _ _ _ c.loop-test.false c.loop.invariant.1
