use Rattle.std.proofs.Common.{◌∙◌, Some, ap, subst, length}
use Rattle.lp_term.specs.Nodes.{tree}
use Rattle.lp_lemmas.proofs.Results.{passed_up}
use Rattle.lp_gen.specs.declared.plan.Origin.{Origin}
use Rattle.lp_gen.specs.declared.plan.Origin.TheVariants as origin
use Rattle.lp_gen.specs.Steps.{Around, constant_function}
use Rattle.lp_gen.specs.Registers.{both, variables_take, head_takes, behind_head, unset_take}
use Rattle.lp_gen.specs.inner.Entering.{ClauseEntered}
use Rattle.lp_gen.specs.inner.Using.{Uses, Lacks}
use Rattle.lp_gen.specs.inner.Recorded.{own_count, front_takes, front_around}
use Rattle.lp_gen.proofs.Using.{lacks_first, lacks_then}
use Rattle.lp_gen.proofs.Filling.{front_used}
use Rattle.lp_gen.proofs.record.write_head.Goals as goal

pub returns-clause-written : goal.returns-clause-written
returns-clause-written c = record {
  begun = c.enter_clause.new.emitter;
  matched = c.get_head.new.emitter;
  begun_env = c.enter_clause.new.environment;
  matched_env = c.get_head.new.environment;
  entered = subst (ClauseEntered c.args.emitter.now c.enter_clause.new.emitter c.args.environment.now c.enter_clause.new.environment) c.as_slice.ensures.value c.in_ok-enter_clause.ensures.code;
  head = c.in_ok-head.ensures.code;
  behind = c.in_ok-head.ensures.around;
  made = c.in_ok-make_variables.ensures.code;
}

pub returns-clause-uses : goal.returns-clause-uses
returns-clause-uses c = λ well.
    let b = c.args.tables.bank.now in
    let o : Origin = origin.Clause c.args.clause in
    let e = subst (ClauseEntered c.args.emitter.now c.enter_clause.new.emitter c.args.environment.now c.enter_clause.new.environment) c.as_slice.ensures.value c.in_ok-enter_clause.ensures.code in
    front_used b (constant_function b c.args.tables.constants.now) c.args.emitter.now c.enter_clause.new.emitter c.get_head.new.emitter c.make_variables.new.emitter c.args.environment.now
    c.enter_clause.new.environment c.get_head.new.environment o (Some c.in_ok-head.head) (e.around b) c.in_ok-head.ensures.code c.in_ok-head.ensures.around
    (subst (λ l. Uses c.args.emitter.now c.enter_clause.new.emitter (variables_take (length l))) c.as_slice.ensures.value c.in_ok-enter_clause.ensures.uses) c.in_ok-head.ensures.uses
    c.in_ok-make_variables.ensures.uses well

pub returns-in_err-enter_clause-clause-lacks : goal.returns-in_err-enter_clause-clause-lacks
returns-in_err-enter_clause-clause-lacks c =
    let b = c.args.tables.bank.now in
    let K = constant_function b c.args.tables.constants.now in
    let o : Origin = origin.Clause c.args.clause in
    let a = front_around b c.args.environment.now c.args.emitter.now.registers o in
    let h = tree b c.args.clause.now.head.0 in
    let e = c.in_err-enter_clause.field-0.0 in
    passed_up c.from_residual.result e (Lacks c.args.emitter.now (front_takes K a (own_count o) (Some h))) c.from_residual.ensures.1
    (lacks_first (both (head_takes K a h) (unset_take (behind_head K a h).own))
    (subst (λ l. Lacks c.args.emitter.now (variables_take (length l)) e) c.as_slice.ensures.value c.in_err-enter_clause.ensures.lacks))

pub returns-in_err-head-clause-lacks : goal.returns-in_err-head-clause-lacks
returns-in_err-head-clause-lacks c =
    let b = c.args.tables.bank.now in
    let K = constant_function b c.args.tables.constants.now in
    let o : Origin = origin.Clause c.args.clause in
    let a = front_around b c.args.environment.now c.args.emitter.now.registers o in
    let h = tree b c.args.clause.now.head.0 in
    let e = c.in_err-head.field-0.0 in
    let w = subst (ClauseEntered c.args.emitter.now c.enter_clause.new.emitter c.args.environment.now c.enter_clause.new.environment) c.as_slice.ensures.value c.in_ok-enter_clause.ensures.code in
    passed_up c.from_residual-in_err-head.result e (Lacks c.args.emitter.now (front_takes K a (own_count o) (Some h))) c.from_residual-in_err-head.ensures.1
    (lacks_then (subst (λ l. Uses c.args.emitter.now c.enter_clause.new.emitter (variables_take (length l))) c.as_slice.ensures.value c.in_ok-enter_clause.ensures.uses)
    (lacks_first (unset_take (behind_head K a h).own) (subst (λ x. Lacks c.enter_clause.new.emitter (head_takes K x h) e) (w.around b) c.in_err-head.ensures.lacks)))

pub returns-in_err-make_variables-clause-lacks : goal.returns-in_err-make_variables-clause-lacks
returns-in_err-make_variables-clause-lacks c =
    let b = c.args.tables.bank.now in
    let K = constant_function b c.args.tables.constants.now in
    let o : Origin = origin.Clause c.args.clause in
    let a = front_around b c.args.environment.now c.args.emitter.now.registers o in
    let h = tree b c.args.clause.now.head.0 in
    let e = c.in_err-make_variables.field-0.0 in
    let w = subst (ClauseEntered c.args.emitter.now c.enter_clause.new.emitter c.args.environment.now c.enter_clause.new.environment) c.as_slice.ensures.value c.in_ok-enter_clause.ensures.code in
    let is = c.in_ok-head.ensures.around ∙ ap (λ (x : Around). behind_head K x h) (w.around b) in
    passed_up c.from_residual-in_err-make_variables.result e (Lacks c.args.emitter.now (front_takes K a (own_count o) (Some h))) c.from_residual-in_err-make_variables.ensures.1
    (lacks_then (subst (λ l. Uses c.args.emitter.now c.enter_clause.new.emitter (variables_take (length l))) c.as_slice.ensures.value c.in_ok-enter_clause.ensures.uses)
    (lacks_then (subst (λ x. Uses c.enter_clause.new.emitter c.get_head.new.emitter (head_takes K x h)) (w.around b) c.in_ok-head.ensures.uses)
    (subst (λ (x : Around). Lacks c.get_head.new.emitter (unset_take x.own) e) is c.in_err-make_variables.ensures.lacks)))
