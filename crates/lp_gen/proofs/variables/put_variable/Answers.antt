use Rattle.lp_gen.specs.inner.Listing.{around_of, seen}
use Rattle.lp_gen.proofs.Beginning.{variable_made}
use Rattle.lp_lemmas.proofs.Results.{passed_up}
use Rattle.lp_gen.specs.Registers.{plain_code, made_takes}
use Rattle.lp_gen.specs.inner.Using.{Lacks}
use Rattle.lp_gen.proofs.Using.{lacks_first}
use Rattle.lp_gen.proofs.VariablesUsed.{variable_made_uses, variable_made_lacks}
use Rattle.lp_gen.proofs.variables.put_variable.Goals as goal

pub returns-clause-made : goal.returns-clause-made
returns-clause-made c =
    let b = c.args.bank.now in
    variable_made c.args.emitter.now c.put_type.new.emitter c.emit.new.self (around_of b c.args.environment.now) c.args.level (seen b c.args.variable) c.in_ok-register.register
    c.in_ok-register.ensures.code c.in_ok-emit.ensures.code c.in_ok-emit.ensures.types c.in_ok-emit.ensures.registers

pub returns-clause-set : goal.returns-clause-set
returns-clause-set c = c.set.ensures c.args.bank.now

pub returns-clause-uses : goal.returns-clause-uses
returns-clause-uses c =
    variable_made_uses (seen c.args.bank.now c.args.variable) c.args.variable.register c.in_ok-register.register c.in_ok-register.ensures.uses c.in_ok-emit.ensures.types c.in_ok-emit.ensures.registers
    c.in_ok-emit.ensures.place

pub returns-in_err-register-clause-lacks : goal.returns-in_err-register-clause-lacks
returns-in_err-register-clause-lacks c =
    let v = seen c.args.bank.now c.args.variable in
    let e = c.in_err-register.field-0.0 in
    passed_up c.from_residual.result e (Lacks c.args.emitter.now (made_takes v)) c.from_residual.ensures.1
    (lacks_first (plain_code 5 0) c.in_err-register.ensures.lacks)

pub returns-in_err-emit-clause-lacks : goal.returns-in_err-emit-clause-lacks
returns-in_err-emit-clause-lacks c =
    let v = seen c.args.bank.now c.args.variable in
    let e = c.in_err-emit.field-0.0 in
    passed_up c.from_residual-in_err-emit.result e (Lacks c.args.emitter.now (made_takes v)) c.from_residual-in_err-emit.ensures.1
    (variable_made_lacks c.args.emitter.now c.put_type.new.emitter v c.args.variable.register c.in_ok-register.register e c.in_ok-register.ensures.uses c.in_err-emit.ensures.cause)
