use Rattle.lp_lemmas.proofs.Results.{passed_up}
use Rattle.lp_term.specs.Nodes.{type_tree}
use Rattle.lp_gen.specs.Registers.{both, type_takes, term_code}
use Rattle.lp_gen.specs.inner.Using.{Lacks}
use Rattle.lp_gen.proofs.Using.{lacks_first}
use Rattle.lp_gen.proofs.BodyUsed.{opened_uses, no_register}
use Rattle.lp_gen.proofs.body.open_variable.Goals as goal

pub returns-clause-code : goal.returns-clause-code
returns-clause-code c = (
  c.put_type.new.emitter,
  c.in_ok-kind.ensures.code,
  c.in_ok-register.ensures.code,
  c.in_ok-register.ensures.types,
  c.in_ok-register.ensures.registers,
  c.in_ok-register.ensures.register,
  c.in_ok-push.ensures c.args.bank.now,
)

pub returns-clause-uses : goal.returns-clause-uses
returns-clause-uses c =
    opened_uses (type_tree c.args.bank.now c.args.of.0) c.in_ok-kind.ensures.uses c.in_ok-register.ensures.types c.in_ok-register.ensures.registers c.in_ok-register.ensures.place

pub returns-in_err-kind-clause-lacks : goal.returns-in_err-kind-clause-lacks
returns-in_err-kind-clause-lacks c =
    let e = c.in_err-kind.field-0.0 in
    passed_up c.from_residual.result e (Lacks c.args.emitter.now (both (type_takes (type_tree c.args.bank.now c.args.of.0)) (term_code 0 0))) c.from_residual.ensures.1
    (lacks_first (term_code 0 0) c.in_err-kind.ensures.lacks)

pub returns-in_err-register-clause-lacks : goal.returns-in_err-register-clause-lacks
returns-in_err-register-clause-lacks c =
    let T = type_tree c.args.bank.now c.args.of.0 in
    let e = c.in_err-register.field-0.0 in
    passed_up c.from_residual-in_err-register.result e (Lacks c.args.emitter.now (both (type_takes T) (term_code 0 0))) c.from_residual-in_err-register.ensures.1
    (no_register c.args.emitter.now c.put_type.new.emitter T e c.in_ok-kind.ensures.uses c.in_err-register.ensures.cause)
