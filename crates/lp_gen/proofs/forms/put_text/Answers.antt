use Rattle.lp_gen.specs.Steps.{make_text}
use Rattle.lp_code.specs.declared.instruction.Instr.TheVariants as instr
use Rattle.lp_gen.proofs.Using.{term_made, no_term_register, no_term_code}
use Rattle.lp_gen.specs.Registers.{step_takes, text_length}
use Rattle.lp_gen.specs.inner.Using.{Lacks}
use Rattle.lp_lemmas.proofs.Results.{passed_up}
use Rattle.std.proofs.Common.{refl, ◌+◌, ap}
use Rattle.lp_gen.proofs.TermPut.{text_put, string_cut}
use Rattle.lp_gen.proofs.forms.put_text.Goals as goal

pub returns-clause-code : goal.returns-clause-code
returns-clause-code c =
    string_cut c.args.emitter.now c.emit.new.self c.in_ok-made.made c.in_ok-text.text.items c.args.bytes.now c.in_ok-text.ensures.whole
    (text_put c.args.emitter.now c.new_register.new.self c.emit.new.self c.in_ok-made.made c.in_ok-text.text c.in_ok-text.text.items refl c.in_ok-made.ensures.register
    c.in_ok-made.ensures.code c.in_ok-made.ensures.types c.in_ok-made.ensures.registers c.in_ok-emit.ensures.code c.in_ok-emit.ensures.types c.in_ok-emit.ensures.registers)

pub returns-clause-uses : goal.returns-clause-uses
returns-clause-uses c =
    term_made c.new_register.new.self (instr.PutStr c.in_ok-made.made c.in_ok-text.text) (5 + text_length c.args.bytes.now) (0) c.in_ok-made.ensures.types c.in_ok-made.ensures.registers c.in_ok-made.ensures.place c.in_ok-emit.ensures.types c.in_ok-emit.ensures.registers c.in_ok-emit.ensures.place c.in_ok-emit.ensures.room (ap (λ k. 5 + k) c.in_ok-text.ensures.count) refl

pub returns-in_err-made-clause-lacks : goal.returns-in_err-made-clause-lacks
returns-in_err-made-clause-lacks c =
    let e = c.in_err-made.field-0.0 in
    passed_up c.from_residual-in_err-made.result e (Lacks c.args.emitter.now (step_takes (make_text c.args.bytes.now))) c.from_residual-in_err-made.ensures.1
    (no_term_register c.args.emitter.now (5 + text_length c.args.bytes.now) (0) e c.in_err-made.ensures.cause)

pub returns-in_err-emit-clause-lacks : goal.returns-in_err-emit-clause-lacks
returns-in_err-emit-clause-lacks c =
    let e = c.in_err-emit.field-0.0 in
    passed_up c.from_residual-in_err-emit.result e (Lacks c.args.emitter.now (step_takes (make_text c.args.bytes.now))) c.from_residual-in_err-emit.ensures.1
    (no_term_code c.args.emitter.now c.new_register.new.self (instr.PutStr c.in_ok-made.made c.in_ok-text.text) (5 + text_length c.args.bytes.now) (0) e c.in_ok-made.ensures.place (ap (λ k. 5 + k) c.in_ok-text.ensures.count) refl c.in_err-emit.ensures.cause)
