use Rattle.lp_gen.proofs.Using.{uses_both, lacks_first, lacks_then, plain_said, no_plain_code}
use Rattle.lp_code.specs.declared.instruction.Instr.TheVariants as instr
use Rattle.std.proofs.Common.{refl}
use Rattle.lp_term.specs.Nodes.{type_tree}
use Rattle.lp_gen.specs.Steps.{make_variable}
use Rattle.lp_gen.specs.Registers.{step_takes, plain_code}
use Rattle.lp_gen.specs.inner.Using.{Lacks}
use Rattle.lp_lemmas.proofs.Results.{passed_up}
use Rattle.lp_gen.proofs.VariablePut.{new_then}
use Rattle.lp_gen.proofs.term_steps.new_variable.Goals as goal

pub returns-clause-code : goal.returns-clause-code
returns-clause-code c = λ start steps made x.
    new_then c.args.bank.now start c.args.emitter.now c.put_type.new.emitter c.emit.new.self steps made c.args.register c.in_ok-kind.kind c.args.of
    x c.in_ok-kind.ensures.code
    c.in_ok-emit.ensures.code c.in_ok-emit.ensures.types c.in_ok-emit.ensures.registers

pub returns-clause-uses : goal.returns-clause-uses
returns-clause-uses c =
    uses_both c.in_ok-kind.ensures.uses (plain_said (instr.New c.args.register c.in_ok-kind.kind) 5 0 c.in_ok-emit.ensures.types c.in_ok-emit.ensures.registers c.in_ok-emit.ensures.place c.in_ok-emit.ensures.room refl refl)

pub returns-in_err-kind-clause-lacks : goal.returns-in_err-kind-clause-lacks
returns-in_err-kind-clause-lacks c =
    let e = c.in_err-kind.field-0.0 in
    passed_up c.from_residual.result e (Lacks c.args.emitter.now (step_takes (make_variable c.args.register (type_tree c.args.bank.now c.args.of.0)))) c.from_residual.ensures.1
    (lacks_first (plain_code 5 0) c.in_err-kind.ensures.lacks)

pub returns-in_err-emit-clause-lacks : goal.returns-in_err-emit-clause-lacks
returns-in_err-emit-clause-lacks c =
    let e = c.in_err-emit.field-0.0 in
    passed_up c.from_residual-in_err-emit.result e (Lacks c.args.emitter.now (step_takes (make_variable c.args.register (type_tree c.args.bank.now c.args.of.0)))) c.from_residual-in_err-emit.ensures.1
    (lacks_then c.in_ok-kind.ensures.uses (no_plain_code c.put_type.new.emitter (instr.New c.args.register c.in_ok-kind.kind) 5 0 e refl refl c.in_err-emit.ensures.cause))
