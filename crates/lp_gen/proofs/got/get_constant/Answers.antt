use Rattle.std.proofs.Common.{refl, ◌+◌, ◌*◌, length}
use Rattle.lp_gen.proofs.Using.{plain_said, no_plain_code}
use Rattle.lp_code.specs.declared.instruction.Instr.TheVariants as instr
use Rattle.lp_gen.specs.Registers.{past, plain_code}
use Rattle.lp_gen.specs.inner.Using.{Lacks}
use Rattle.lp_lemmas.proofs.Results.{passed_up}
use Rattle.lp_gen.proofs.GoalPut.{constant_got}
use Rattle.lp_gen.proofs.got.get_constant.Goals as goal

pub returns-clause-code : goal.returns-clause-code
returns-clause-code c =
    constant_got c.args.emitter.now c.emit.new.self c.args.at c.args.number c.args.types c.in_ok-emit.ensures.code c.in_ok-emit.ensures.types c.in_ok-emit.ensures.registers

pub returns-clause-uses : goal.returns-clause-uses
returns-clause-uses c =
    plain_said (instr.GetConst c.args.at c.args.number c.args.types) (5 + 2 * length c.args.types.items) (past 255 (length c.args.types.items)) c.in_ok-emit.ensures.types c.in_ok-emit.ensures.registers c.in_ok-emit.ensures.place c.in_ok-emit.ensures.room refl refl

pub returns-in_err-emit-clause-lacks : goal.returns-in_err-emit-clause-lacks
returns-in_err-emit-clause-lacks c =
    let e = c.in_err-emit.field-0.0 in
    passed_up c.from_residual.result e (Lacks c.args.emitter.now (plain_code (5 + 2 * length c.args.types.items) (past 255 (length c.args.types.items)))) c.from_residual.ensures.1
    (no_plain_code c.args.emitter.now (instr.GetConst c.args.at c.args.number c.args.types) (5 + 2 * length c.args.types.items) (past 255 (length c.args.types.items)) e refl refl c.in_err-emit.ensures.cause)
