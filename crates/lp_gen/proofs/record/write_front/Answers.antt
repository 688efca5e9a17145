use Rattle.std.proofs.Common.{Some, None, sym, subst}
use Rattle.lp_lemmas.proofs.Results.{passed_up}
use Rattle.lp_gen.specs.declared.plan.Origin.{Origin}
use Rattle.lp_gen.specs.Steps.{constant_function}
use Rattle.lp_gen.specs.inner.Using.{Uses, Lacks}
use Rattle.lp_gen.specs.inner.Recorded.{own_count, head_in, FrontWritten, front_takes, front_around, StartsWell}
use Rattle.lp_gen.proofs.record.write_front.Goals as goal

pub returns-in_ok-head-in-Clause-clause-written : goal.returns-in_ok-head-in-Clause-clause-written
returns-in_ok-head-in-Clause-clause-written c =
    let b = c.args.tables.bank.now in
    subst (λ (o : Origin). FrontWritten b (constant_function b c.args.tables.constants.now) c.args.emitter.now c.write_head.new.emitter
    c.args.environment.now c.write_head.new.environment o (Some c.in_ok-head-in-Clause.head))
    (sym c.in-Clause.is) c.in_ok-head-in-Clause.ensures.written

pub returns-in_ok-head-in-Clause-clause-uses : goal.returns-in_ok-head-in-Clause-clause-uses
returns-in_ok-head-in-Clause-clause-uses c =
    let b = c.args.tables.bank.now in
    let K = constant_function b c.args.tables.constants.now in
    subst (λ (o : Origin). StartsWell b c.args.environment.now o → Uses c.args.emitter.now c.write_head.new.emitter
    (front_takes K (front_around b c.args.environment.now c.args.emitter.now.registers o) (own_count o) (head_in b o)))
    (sym c.in-Clause.is) c.in_ok-head-in-Clause.ensures.uses

pub returns-in_err-head-in-Clause-clause-lacks : goal.returns-in_err-head-in-Clause-clause-lacks
returns-in_err-head-in-Clause-clause-lacks c =
    let b = c.args.tables.bank.now in
    let K = constant_function b c.args.tables.constants.now in
    let e = c.in_err-head-in-Clause.field-0.0 in
    let m = λ (o : Origin). front_takes K (front_around b c.args.environment.now c.args.emitter.now.registers o) (own_count o) (head_in b o) in
    passed_up c.from_residual.result e (Lacks c.args.emitter.now (m c.args.origin)) c.from_residual.ensures.1
    (subst (λ (o : Origin). Lacks c.args.emitter.now (m o) e) (sym c.in-Clause.is) c.in_err-head-in-Clause.ensures.lacks)

pub returns-in_ok-write_variables-in-Query-clause-written : goal.returns-in_ok-write_variables-in-Query-clause-written
returns-in_ok-write_variables-in-Query-clause-written c =
    let b = c.args.tables.bank.now in
    subst (λ (o : Origin). FrontWritten b (constant_function b c.args.tables.constants.now) c.args.emitter.now c.write_variables.new.emitter
    c.args.environment.now c.write_variables.new.environment o None)
    (sym c.in-Query.is) (c.in_ok-write_variables-in-Query.ensures.written c.in-Query.field-1)

pub returns-in_ok-write_variables-in-Query-clause-uses : goal.returns-in_ok-write_variables-in-Query-clause-uses
returns-in_ok-write_variables-in-Query-clause-uses c =
    let b = c.args.tables.bank.now in
    let K = constant_function b c.args.tables.constants.now in
    subst (λ (o : Origin). StartsWell b c.args.environment.now o → Uses c.args.emitter.now c.write_variables.new.emitter
    (front_takes K (front_around b c.args.environment.now c.args.emitter.now.registers o) (own_count o) (head_in b o)))
    (sym c.in-Query.is) (c.in_ok-write_variables-in-Query.ensures.uses c.in-Query.field-1)

pub returns-in_err-write_variables-in-Query-clause-lacks : goal.returns-in_err-write_variables-in-Query-clause-lacks
returns-in_err-write_variables-in-Query-clause-lacks c =
    let b = c.args.tables.bank.now in
    let K = constant_function b c.args.tables.constants.now in
    let e = c.in_err-write_variables-in-Query.field-0.0 in
    let m = λ (o : Origin). front_takes K (front_around b c.args.environment.now c.args.emitter.now.registers o) (own_count o) (head_in b o) in
    passed_up c.from_residual-in_err-write_variables-in-Query.result e (Lacks c.args.emitter.now (m c.args.origin)) c.from_residual-in_err-write_variables-in-Query.ensures.1
    (subst (λ (o : Origin). Lacks c.args.emitter.now (m o) e) (sym c.in-Query.is) (c.in_err-write_variables-in-Query.ensures.lacks c.in-Query.field-1))
