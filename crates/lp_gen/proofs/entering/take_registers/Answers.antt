use Rattle.std.proofs.Common.{arith}
use Rattle.lp_lemmas.proofs.Results.{passed_up}
use Rattle.lp_gen.specs.Registers.{variables_take}
use Rattle.lp_gen.specs.inner.Using.{Lacks}
use Rattle.lp_gen.proofs.VariablesUsed.{no_variable_more}
use Rattle.lp_gen.proofs.entering.take_registers.Goals as goal

pub returns-in_err-_register-clause-lacks : goal.returns-in_err-_register-clause-lacks
returns-in_err-_register-clause-lacks c =
    let e = c.in_err-_register.field-0.0 in
    passed_up c.from_residual.result e (Lacks c.args.emitter.now (variables_take c.args.count)) c.from_residual.ensures.1
    (no_variable_more c.args.emitter.now c.loop.emitter c.loop.counter c.args.count e c.loop.invariant.registers (omega (arith, c.loop-test.true)) c.in_err-_register.ensures.cause)
