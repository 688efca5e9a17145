use Rattle.lp_gen.specs.Steps.{apply_last}
use Rattle.std.proofs.Common.{refl, ◌+◌, ◌*◌, length}
use Rattle.lp_code.specs.declared.instruction.Instr.TheVariants as instr
use Rattle.lp_gen.proofs.Using.{term_made, no_term_register, no_term_code}
use Rattle.lp_gen.specs.Registers.{past, step_takes}
use Rattle.lp_gen.specs.inner.Using.{Lacks}
use Rattle.lp_lemmas.proofs.Results.{passed_up}
use Rattle.lp_gen.proofs.TermPut.{application_put}
use Rattle.lp_gen.proofs.forms.put_application.Goals as goal

pub returns-clause-code : goal.returns-clause-code
returns-clause-code c =
    application_put c.args.emitter.now c.new_register.new.self c.emit.new.self c.in_ok-made.made c.args.head c.args.args c.in_ok-made.ensures.register c.in_ok-made.ensures.code
    c.in_ok-made.ensures.types c.in_ok-made.ensures.registers c.in_ok-emit.ensures.code c.in_ok-emit.ensures.types c.in_ok-emit.ensures.registers

pub returns-clause-uses : goal.returns-clause-uses
returns-clause-uses c =
    term_made c.new_register.new.self (instr.PutApp c.in_ok-made.made c.args.head c.args.args) (6 + 2 * length c.args.args.items) (past 255 (length c.args.args.items)) c.in_ok-made.ensures.types c.in_ok-made.ensures.registers c.in_ok-made.ensures.place c.in_ok-emit.ensures.types c.in_ok-emit.ensures.registers c.in_ok-emit.ensures.place c.in_ok-emit.ensures.room refl refl

pub returns-in_err-made-clause-lacks : goal.returns-in_err-made-clause-lacks
returns-in_err-made-clause-lacks c =
    let e = c.in_err-made.field-0.0 in
    passed_up c.from_residual.result e (Lacks c.args.emitter.now (step_takes (apply_last (length c.args.args.items)))) c.from_residual.ensures.1
    (no_term_register c.args.emitter.now (6 + 2 * length c.args.args.items) (past 255 (length c.args.args.items)) e c.in_err-made.ensures.cause)

pub returns-in_err-emit-clause-lacks : goal.returns-in_err-emit-clause-lacks
returns-in_err-emit-clause-lacks c =
    let e = c.in_err-emit.field-0.0 in
    passed_up c.from_residual-in_err-emit.result e (Lacks c.args.emitter.now (step_takes (apply_last (length c.args.args.items)))) c.from_residual-in_err-emit.ensures.1
    (no_term_code c.args.emitter.now c.new_register.new.self (instr.PutApp c.in_ok-made.made c.args.head c.args.args) (6 + 2 * length c.args.args.items) (past 255 (length c.args.args.items)) e c.in_ok-made.ensures.place refl refl c.in_err-emit.ensures.cause)
