use Rattle.std.proofs.Common.{[], refl}
use Rattle.lp_lemmas.proofs.Results.{passed_up}
use Rattle.lp_code.specs.declared.instruction.Instr.TheVariants as instr
use Rattle.lp_gen.specs.Steps.{constant_function}
use Rattle.lp_gen.specs.Registers.{both, plain_code}
use Rattle.lp_gen.specs.inner.Listing.{around_of}
use Rattle.lp_gen.specs.inner.Using.{Lacks}
use Rattle.lp_gen.specs.inner.BodyUsing.{block_steps_take, body_code_takes}
use Rattle.lp_gen.proofs.Using.{uses_both, lacks_first, lacks_then, plain_said, no_plain_code}
use Rattle.lp_gen.proofs.body.write_body.Goals as goal

pub returns-clause-code : goal.returns-clause-code
returns-clause-code c = record {
  begun = c.put_neck.new.emitter;
  said = c.write_steps.new.emitter;
  neck = c.in_ok-put_neck.ensures.code;
  written = c.in_ok-write_steps.ensures.code;
  code_is = c.in_ok-emit.ensures.code;
  types_stay = c.in_ok-emit.ensures.types;
  registers_stay = c.in_ok-emit.ensures.registers;
}

pub returns-clause-uses : goal.returns-clause-uses
returns-clause-uses c = λ set.
    uses_both c.in_ok-put_neck.ensures.uses (uses_both (c.in_ok-write_steps.ensures.uses set)
    (plain_said instr.Proceed 1 0 c.in_ok-emit.ensures.types c.in_ok-emit.ensures.registers c.in_ok-emit.ensures.place c.in_ok-emit.ensures.room refl refl))

pub returns-in_err-put_neck-clause-lacks : goal.returns-in_err-put_neck-clause-lacks
returns-in_err-put_neck-clause-lacks c = λ set.
    let t = c.args.tables in
    let b = t.bank.now in
    let K = constant_function b t.constants.now in
    let a = around_of b c.args.environment.now in
    let e = c.in_err-put_neck.field-0.0 in
    passed_up c.from_residual.result e (Lacks c.args.emitter.now (body_code_takes b t.type_vars t.assumptions.now K a c.args.steps.now)) c.from_residual.ensures.1
    (lacks_first (both (block_steps_take b t.type_vars t.assumptions.now K a [] c.args.steps.now) (plain_code 1 0)) c.in_err-put_neck.ensures.lacks)

pub returns-in_err-write_steps-clause-lacks : goal.returns-in_err-write_steps-clause-lacks
returns-in_err-write_steps-clause-lacks c = λ set.
    let t = c.args.tables in
    let b = t.bank.now in
    let K = constant_function b t.constants.now in
    let a = around_of b c.args.environment.now in
    let e = c.in_err-write_steps.field-0.0 in
    passed_up c.from_residual-in_err-write_steps.result e (Lacks c.args.emitter.now (body_code_takes b t.type_vars t.assumptions.now K a c.args.steps.now)) c.from_residual-in_err-write_steps.ensures.1
    (lacks_then c.in_ok-put_neck.ensures.uses (lacks_first (plain_code 1 0) (c.in_err-write_steps.ensures.lacks set)))

pub returns-in_err-emit-clause-lacks : goal.returns-in_err-emit-clause-lacks
returns-in_err-emit-clause-lacks c = λ set.
    let t = c.args.tables in
    let b = t.bank.now in
    let K = constant_function b t.constants.now in
    let a = around_of b c.args.environment.now in
    let e = c.in_err-emit.field-0.0 in
    passed_up c.from_residual-in_err-emit.result e (Lacks c.args.emitter.now (body_code_takes b t.type_vars t.assumptions.now K a c.args.steps.now)) c.from_residual-in_err-emit.ensures.1
    (lacks_then c.in_ok-put_neck.ensures.uses (lacks_then (c.in_ok-write_steps.ensures.uses set)
    (no_plain_code c.write_steps.new.emitter instr.Proceed 1 0 e refl refl c.in_err-emit.ensures.cause)))
