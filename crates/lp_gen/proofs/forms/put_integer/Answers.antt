use Rattle.lp_gen.specs.Steps.{make_integer}
use Rattle.lp_code.specs.declared.instruction.Instr.TheVariants as instr
use Rattle.lp_gen.proofs.Using.{term_made, no_term_register, no_term_code}
use Rattle.lp_gen.specs.Registers.{step_takes}
use Rattle.lp_gen.specs.inner.Using.{Lacks}
use Rattle.lp_lemmas.proofs.Results.{passed_up}
use Rattle.std.proofs.Common.{◌≡◌, ◌∙◌, ◌++◌, ◌∷◌, [], ap, arith, w64, to_z, of_z, refl}
use Rattle.std.proofs.lemmas.Int.{to_z-of_z}
use Rattle.lp_code.specs.declared.instruction.Instr.TheVariants.{PutInt}
use Rattle.lp_gen.proofs.TermPut.{integer_put}
use Rattle.lp_gen.proofs.forms.put_integer.Goals as goal

pub returns-clause-code : goal.returns-clause-code
returns-clause-code c =
    let same : to_z w64 (of_z w64 c.args.value) ≡ c.args.value = grind (arith, to_z-of_z) in
    integer_put c.args.emitter.now c.new_register.new.self c.emit.new.self c.in_ok-made.made c.args.value c.in_ok-made.ensures.register c.in_ok-made.ensures.code c.in_ok-made.ensures.types
    c.in_ok-made.ensures.registers
    (c.in_ok-emit.ensures.code ∙ ap (λ z. c.new_register.new.self.code.items ++ PutInt c.in_ok-made.made z ∷ []) same) c.in_ok-emit.ensures.types c.in_ok-emit.ensures.registers

pub returns-clause-uses : goal.returns-clause-uses
returns-clause-uses c =
    term_made c.new_register.new.self (instr.PutInt c.in_ok-made.made c.args.value) (11) (0) c.in_ok-made.ensures.types c.in_ok-made.ensures.registers c.in_ok-made.ensures.place c.in_ok-emit.ensures.types c.in_ok-emit.ensures.registers c.in_ok-emit.ensures.place c.in_ok-emit.ensures.room refl refl

pub returns-in_err-made-clause-lacks : goal.returns-in_err-made-clause-lacks
returns-in_err-made-clause-lacks c =
    let e = c.in_err-made.field-0.0 in
    passed_up c.from_residual.result e (Lacks c.args.emitter.now (step_takes (make_integer c.args.value))) c.from_residual.ensures.1
    (no_term_register c.args.emitter.now (11) (0) e c.in_err-made.ensures.cause)

pub returns-in_err-emit-clause-lacks : goal.returns-in_err-emit-clause-lacks
returns-in_err-emit-clause-lacks c =
    let e = c.in_err-emit.field-0.0 in
    passed_up c.from_residual-in_err-emit.result e (Lacks c.args.emitter.now (step_takes (make_integer c.args.value))) c.from_residual-in_err-emit.ensures.1
    (no_term_code c.args.emitter.now c.new_register.new.self (instr.PutInt c.in_ok-made.made c.args.value) (11) (0) e c.in_ok-made.ensures.place refl refl c.in_err-emit.ensures.cause)
