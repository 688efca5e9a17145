use Rattle.lp_gen.proofs.Using.{plain_said, no_plain_code}
use Rattle.lp_code.specs.declared.instruction.Instr.TheVariants as instr
use Rattle.lp_gen.specs.Registers.{plain_code}
use Rattle.lp_gen.specs.inner.Using.{Lacks}
use Rattle.lp_lemmas.proofs.Results.{passed_up}
use Rattle.std.proofs.Common.{◌≡◌, ◌∙◌, ◌++◌, ◌∷◌, [], ap, arith, w64, to_z, of_z, refl}
use Rattle.std.proofs.lemmas.Int.{to_z-of_z}
use Rattle.lp_code.specs.declared.instruction.Instr.TheVariants.{GetInt}
use Rattle.lp_gen.proofs.GoalPut.{integer_got}
use Rattle.lp_gen.proofs.got.get_integer.Goals as goal

pub returns-clause-code : goal.returns-clause-code
returns-clause-code c =
    let same : to_z w64 (of_z w64 c.args.value) ≡ c.args.value = grind (arith, to_z-of_z) in
    integer_got c.args.emitter.now c.emit.new.self c.args.at c.args.value (c.in_ok-emit.ensures.code
    ∙ ap (λ z. c.args.emitter.now.code.items ++ GetInt c.args.at z ∷ []) same) c.in_ok-emit.ensures.types c.in_ok-emit.ensures.registers

pub returns-clause-uses : goal.returns-clause-uses
returns-clause-uses c =
    plain_said (instr.GetInt c.args.at c.args.value) (10) (0) c.in_ok-emit.ensures.types c.in_ok-emit.ensures.registers c.in_ok-emit.ensures.place c.in_ok-emit.ensures.room refl refl

pub returns-in_err-emit-clause-lacks : goal.returns-in_err-emit-clause-lacks
returns-in_err-emit-clause-lacks c =
    let e = c.in_err-emit.field-0.0 in
    passed_up c.from_residual.result e (Lacks c.args.emitter.now (plain_code (10) (0))) c.from_residual.ensures.1
    (no_plain_code c.args.emitter.now (instr.GetInt c.args.at c.args.value) (10) (0) e refl refl c.in_err-emit.ensures.cause)
