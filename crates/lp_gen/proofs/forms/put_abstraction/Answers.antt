use Rattle.lp_gen.specs.Steps.{abstract_last}
use Rattle.std.proofs.Common.{refl}
use Rattle.lp_code.specs.declared.instruction.Instr.TheVariants as instr
use Rattle.lp_gen.proofs.Using.{uses_both, lacks_first, lacks_then, term_made, no_term_register, no_term_code}
use Rattle.lp_gen.specs.Registers.{step_takes, term_code}
use Rattle.lp_gen.specs.inner.Using.{Lacks}
use Rattle.lp_lemmas.proofs.Results.{passed_up}
use Rattle.lp_gen.specs.inner.Reading.{read}
use Rattle.lp_gen.proofs.TermPut.{abstraction_put}
use Rattle.lp_gen.proofs.forms.put_abstraction.Goals as goal

pub returns-clause-code : goal.returns-clause-code
returns-clause-code c =
    abstraction_put c.args.emitter.now c.put_type.new.emitter c.new_register.new.self c.emit.new.self c.in_ok-made.made c.args.body c.in_ok-register.register
    (read c.args.bank.now c.args.of) c.in_ok-register.ensures.code c.in_ok-made.ensures.register c.in_ok-made.ensures.code c.in_ok-made.ensures.types c.in_ok-made.ensures.registers
    c.in_ok-emit.ensures.code c.in_ok-emit.ensures.types c.in_ok-emit.ensures.registers

pub returns-clause-uses : goal.returns-clause-uses
returns-clause-uses c =
    uses_both c.in_ok-register.ensures.uses (term_made c.new_register.new.self (instr.PutAbs c.in_ok-made.made c.args.body c.in_ok-register.register) (7) (0) c.in_ok-made.ensures.types c.in_ok-made.ensures.registers c.in_ok-made.ensures.place c.in_ok-emit.ensures.types c.in_ok-emit.ensures.registers c.in_ok-emit.ensures.place c.in_ok-emit.ensures.room refl refl)

pub returns-in_err-register-clause-lacks : goal.returns-in_err-register-clause-lacks
returns-in_err-register-clause-lacks c =
    let e = c.in_err-register.field-0.0 in
    passed_up c.from_residual.result e (Lacks c.args.emitter.now (step_takes (abstract_last (read c.args.bank.now c.args.of)))) c.from_residual.ensures.1
    (lacks_first (term_code (7) (0)) c.in_err-register.ensures.lacks)

pub returns-in_err-made-clause-lacks : goal.returns-in_err-made-clause-lacks
returns-in_err-made-clause-lacks c =
    let e = c.in_err-made.field-0.0 in
    passed_up c.from_residual-in_err-made.result e (Lacks c.args.emitter.now (step_takes (abstract_last (read c.args.bank.now c.args.of)))) c.from_residual-in_err-made.ensures.1
    (lacks_then c.in_ok-register.ensures.uses (no_term_register c.put_type.new.emitter (7) (0) e c.in_err-made.ensures.cause))

pub returns-in_err-emit-clause-lacks : goal.returns-in_err-emit-clause-lacks
returns-in_err-emit-clause-lacks c =
    let e = c.in_err-emit.field-0.0 in
    passed_up c.from_residual-in_err-emit.result e (Lacks c.args.emitter.now (step_takes (abstract_last (read c.args.bank.now c.args.of)))) c.from_residual-in_err-emit.ensures.1
    (lacks_then c.in_ok-register.ensures.uses (no_term_code c.put_type.new.emitter c.new_register.new.self (instr.PutAbs c.in_ok-made.made c.args.body c.in_ok-register.register) (7) (0) e c.in_ok-made.ensures.place refl refl c.in_err-emit.ensures.cause))
