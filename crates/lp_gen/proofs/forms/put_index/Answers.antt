use Rattle.lp_gen.proofs.LimitsLeft.{past_within, past_over}
use Rattle.lp_gen.specs.Steps.{make_index}
use Rattle.lp_code.specs.declared.instruction.Instr.TheVariants as instr
use Rattle.lp_gen.proofs.Using.{uses_both, lacks_first, lacks_then, term_made, no_term_register, no_term_code}
use Rattle.lp_gen.specs.Registers.{past, step_takes, term_code}
use Rattle.lp_gen.specs.inner.Using.{Lacks, room, for_misfits}
use Rattle.lp_lemmas.proofs.Results.{passed_up}
use Rattle.std.proofs.Common.{◌<◌, ◌≡◌, ◌∙◌, ◌++◌, ◌∷◌, [], ap, arith, refl, sym}
use Rattle.lp_code.specs.declared.instruction.Instr.TheVariants.{PutIndex}
use Rattle.lp_gen.specs.inner.Reading.{read}
use Rattle.lp_gen.proofs.TermPut.{index_put}
use Rattle.lp_gen.proofs.forms.put_index.Goals as goal

pub returns-clause-code : goal.returns-clause-code
returns-clause-code c =
    let same : c.in-Ok.number ≡ c.args.index = grind (arith, c.in-Ok.ensures) in
    index_put c.args.emitter.now c.put_type.new.emitter c.new_register.new.self c.emit.new.self c.in_ok-made.made c.args.index c.in_ok-register.register
    (read c.args.bank.now c.args.of) c.in_ok-register.ensures.code c.in_ok-made.ensures.register c.in_ok-made.ensures.code c.in_ok-made.ensures.types c.in_ok-made.ensures.registers
    (c.in_ok-emit.ensures.code ∙ ap (λ i. c.new_register.new.self.code.items ++ PutIndex c.in_ok-made.made i c.in_ok-register.register ∷ []) same) c.in_ok-emit.ensures.types
    c.in_ok-emit.ensures.registers

pub returns-clause-uses : goal.returns-clause-uses
returns-clause-uses c =
    let none : past 65535 c.args.index ≡ 0 = past_within 65535 c.args.index (let n = c.in-Ok.ensures in omega (arith, n)) in
    uses_both c.in_ok-register.ensures.uses (term_made c.new_register.new.self (instr.PutIndex c.in_ok-made.made c.in-Ok.number c.in_ok-register.register) 7 (past 65535 c.args.index) c.in_ok-made.ensures.types c.in_ok-made.ensures.registers c.in_ok-made.ensures.place c.in_ok-emit.ensures.types c.in_ok-emit.ensures.registers c.in_ok-emit.ensures.place c.in_ok-emit.ensures.room refl (sym none))

pub returns-in_err-register-clause-lacks : goal.returns-in_err-register-clause-lacks
returns-in_err-register-clause-lacks c =
    let e = c.in_err-register.field-0.0 in
    passed_up c.from_residual.result e (Lacks c.args.emitter.now (step_takes (make_index c.args.index (read c.args.bank.now c.args.of)))) c.from_residual.ensures.1
    (lacks_first (term_code 7 (past 65535 c.args.index)) c.in_err-register.ensures.lacks)

pub returns-in_err-made-clause-lacks : goal.returns-in_err-made-clause-lacks
returns-in_err-made-clause-lacks c =
    let none : past 65535 c.args.index ≡ 0 = past_within 65535 c.args.index (let n = c.in-Ok.ensures in omega (arith, n)) in
    let e = c.in_err-made.field-0.0 in
    passed_up c.from_residual-in_err-made.result e (Lacks c.args.emitter.now (step_takes (make_index c.args.index (read c.args.bank.now c.args.of)))) c.from_residual-in_err-made.ensures.1
    (lacks_then c.in_ok-register.ensures.uses (no_term_register c.put_type.new.emitter 7 (past 65535 c.args.index) e c.in_err-made.ensures.cause))

pub returns-in_err-emit-clause-lacks : goal.returns-in_err-emit-clause-lacks
returns-in_err-emit-clause-lacks c =
    let none : past 65535 c.args.index ≡ 0 = past_within 65535 c.args.index (let n = c.in-Ok.ensures in omega (arith, n)) in
    let e = c.in_err-emit.field-0.0 in
    passed_up c.from_residual-in_err-emit.result e (Lacks c.args.emitter.now (step_takes (make_index c.args.index (read c.args.bank.now c.args.of)))) c.from_residual-in_err-emit.ensures.1
    (lacks_then c.in_ok-register.ensures.uses (no_term_code c.put_type.new.emitter c.new_register.new.self (instr.PutIndex c.in_ok-made.made c.in-Ok.number c.in_ok-register.register) 7 (past 65535 c.args.index) e c.in_ok-made.ensures.place refl (sym none) c.in_err-emit.ensures.cause))

pub returns-in_default-clause-lacks : goal.returns-in_default-clause-lacks
returns-in_default-clause-lacks c =
    let high : c.args.index < 65536 → ⊥ = c.in_default.ensures in
    let p = past_over 65535 c.args.index (omega (arith, high)) in
    room refl (for_misfits (omega (arith, p)))
