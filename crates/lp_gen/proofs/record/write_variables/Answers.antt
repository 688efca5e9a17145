use Rattle.std.proofs.Common.{◌∙◌, ◌+◌, None, length, refl, ap, subst}
use Rattle.lp_lemmas.proofs.Results.{passed_up}
use Rattle.lp_gen.specs.declared.plan.Origin.{Origin}
use Rattle.lp_gen.specs.declared.plan.Origin.TheVariants as origin
use Rattle.lp_gen.specs.Steps.{Around, constant_function}
use Rattle.lp_gen.specs.Registers.{nothing, both, variables_take, unset_take}
use Rattle.lp_gen.specs.inner.Entering.{QueryEntered}
use Rattle.lp_gen.specs.inner.Using.{Uses, Lacks}
use Rattle.lp_gen.specs.inner.Recorded.{own_count, front_takes, front_around}
use Rattle.lp_gen.proofs.TypeWorks.{map_length}
use Rattle.lp_gen.proofs.Using.{uses_nothing, lacks_first, lacks_then}
use Rattle.lp_gen.proofs.Filling.{front_used}
use Rattle.lp_gen.proofs.record.write_variables.Goals as goal

pub returns-clause-written : goal.returns-clause-written
returns-clause-written c = λ goals.
    let vars = c.args.query.now.vars.items in
    let are = c.as_slice.ensures.value ∙ c.in_ok-vars.ensures in
    let e = subst (QueryEntered c.args.emitter.now c.enter_query.new.emitter c.args.environment.now c.enter_query.new.environment) are c.in_ok-enter_query.ensures.code in
    record {
      begun = c.enter_query.new.emitter;
      matched = c.enter_query.new.emitter;
      begun_env = c.enter_query.new.environment;
      matched_env = c.enter_query.new.environment;
      entered = record {
        code_stays = e.code_stays;
        types_stay = e.types_stay;
        registers_are = e.registers_are ∙ ap (λ n. c.args.emitter.now.registers + n) (map_length (λ v. v.1) vars);
        around = e.around;
      };
      head = (refl, refl, refl, refl);
      behind = refl;
      made = c.in_ok-make_variables.ensures.code;
    }

pub returns-clause-uses : goal.returns-clause-uses
returns-clause-uses c = λ goals well.
    let b = c.args.tables.bank.now in
    let vars = c.args.query.now.vars.items in
    let are = c.as_slice.ensures.value ∙ c.in_ok-vars.ensures in
    let o : Origin = origin.Query c.args.query goals in
    let e = subst (QueryEntered c.args.emitter.now c.enter_query.new.emitter c.args.environment.now c.enter_query.new.environment) are c.in_ok-enter_query.ensures.code in
    let many = ap length are ∙ map_length (λ v. v.1) vars in
    front_used b (constant_function b c.args.tables.constants.now) c.args.emitter.now c.enter_query.new.emitter c.enter_query.new.emitter c.make_variables.new.emitter c.args.environment.now
    c.enter_query.new.environment c.enter_query.new.environment o None (e.around b) (refl, refl, refl, refl) refl
    (subst (λ n. Uses c.args.emitter.now c.enter_query.new.emitter (variables_take n)) many c.in_ok-enter_query.ensures.uses) (uses_nothing c.enter_query.new.emitter)
    c.in_ok-make_variables.ensures.uses well

pub returns-in_err-enter_query-clause-lacks : goal.returns-in_err-enter_query-clause-lacks
returns-in_err-enter_query-clause-lacks c = λ goals.
    let b = c.args.tables.bank.now in
    let K = constant_function b c.args.tables.constants.now in
    let vars = c.args.query.now.vars.items in
    let are = c.as_slice.ensures.value ∙ c.in_ok-vars.ensures in
    let o : Origin = origin.Query c.args.query goals in
    let a = front_around b c.args.environment.now c.args.emitter.now.registers o in
    let many = ap length are ∙ map_length (λ v. v.1) vars in
    let e = c.in_err-enter_query.field-0.0 in
    passed_up c.from_residual-in_err-enter_query.result e (Lacks c.args.emitter.now (front_takes K a (own_count o) None)) c.from_residual-in_err-enter_query.ensures.1
    (lacks_first (both nothing (unset_take a.own)) (subst (λ n. Lacks c.args.emitter.now (variables_take n) e) many c.in_err-enter_query.ensures.lacks))

pub returns-in_err-make_variables-clause-lacks : goal.returns-in_err-make_variables-clause-lacks
returns-in_err-make_variables-clause-lacks c = λ goals.
    let b = c.args.tables.bank.now in
    let K = constant_function b c.args.tables.constants.now in
    let vars = c.args.query.now.vars.items in
    let are = c.as_slice.ensures.value ∙ c.in_ok-vars.ensures in
    let o : Origin = origin.Query c.args.query goals in
    let a = front_around b c.args.environment.now c.args.emitter.now.registers o in
    let many = ap length are ∙ map_length (λ v. v.1) vars in
    let w = subst (QueryEntered c.args.emitter.now c.enter_query.new.emitter c.args.environment.now c.enter_query.new.environment) are c.in_ok-enter_query.ensures.code in
    let e = c.in_err-make_variables.field-0.0 in
    passed_up c.from_residual-in_err-make_variables.result e (Lacks c.args.emitter.now (front_takes K a (own_count o) None)) c.from_residual-in_err-make_variables.ensures.1
    (lacks_then (subst (λ n. Uses c.args.emitter.now c.enter_query.new.emitter (variables_take n)) many c.in_ok-enter_query.ensures.uses)
    (lacks_then (uses_nothing c.enter_query.new.emitter) (subst (λ (x : Around). Lacks c.enter_query.new.emitter (unset_take x.own) e) (w.around b) c.in_err-make_variables.ensures.lacks)))
