use Rattle.std.proofs.Common.{◌≡◌, ◌∙◌, length, refl, sym, subst}
use Rattle.std.proofs.lemmas.List.{map-id}
use Rattle.std.proofs.lemmas.Iterator.{YieldsList-from_slice}
use Rattle.std.proofs.lemmas.Iterator.Consumers.{YieldsList-end, YieldsList-from_copied, YieldsList-turn}
use Rattle.lp_gen.specs.inner.Entering.{QueryEntered}
use Rattle.lp_gen.proofs.Entered.{no_query, query_more}
use Rattle.lp_lemmas.proofs.Results.{passed_up}
use Rattle.lp_gen.specs.Registers.{variables_take}
use Rattle.lp_gen.specs.inner.Using.{Lacks}
use Rattle.lp_gen.proofs.VariablesUsed.{variables_used, no_variable_more}
use Rattle.lp_gen.proofs.entering.enter_query.Goals as goal

pub loop-of-init : goal.loop-of-init
loop-of-init c = (no_query c.args.emitter.now c.args.environment.now, refl)

pub loop-of-preserved : goal.loop-of-preserved
loop-of-preserved c = (
  query_more c.args.emitter.now c.loop-of.emitter c.new_register.new.self c.args.environment.now c.loop-of.environment c.push.new.self
      c.loop-of.yielded c.in-Some.of c.in_ok-register.register c.loop-of.invariant.0
      c.in_ok-register.ensures.register c.in_ok-register.ensures.code c.in_ok-register.ensures.types c.in_ok-register.ensures.registers c.in_ok-push.ensures,
  c.in_ok-register.ensures.place ∙ c.loop-of.invariant.1,
)

pub returns-clause-code : goal.returns-clause-code
returns-clause-code c =
    let whole : c.loop-of.yielded ≡ c.args.vars.now = sym (map-id c.loop-of.yielded)
    ∙ (YieldsList-end (YieldsList-from_copied (YieldsList-from_slice c.args.vars.now cc)) c.loop-of.yielded _ c.loop-of.yielded_by _ _ c.in-None.is c.next.ensures.steps).0 in
    subst (QueryEntered c.args.emitter.now c.loop-of.emitter c.args.environment.now c.loop-of.environment) whole c.loop-of.invariant.0

pub returns-clause-uses : goal.returns-clause-uses
returns-clause-uses c =
    let whole : c.loop-of.yielded ≡ c.args.vars.now = sym (map-id c.loop-of.yielded)
    ∙ (YieldsList-end (YieldsList-from_copied (YieldsList-from_slice c.args.vars.now cc)) c.loop-of.yielded _ c.loop-of.yielded_by _ _ c.in-None.is c.next.ensures.steps).0 in
    let entered = subst (QueryEntered c.args.emitter.now c.loop-of.emitter c.args.environment.now c.loop-of.environment) whole c.loop-of.invariant.0 in
    variables_used c.args.emitter.now c.loop-of.emitter (length c.args.vars.now) entered.types_stay entered.registers_are c.loop-of.invariant.1

pub returns-in_err-register-clause-lacks : goal.returns-in_err-register-clause-lacks
returns-in_err-register-clause-lacks c =
    let road = YieldsList-from_copied (YieldsList-from_slice c.args.vars.now cc) in
    let turn = YieldsList-turn road c.loop-of.yielded _ c.loop-of.yielded_by _ _ c.in-Some.of c.in-Some.is c.next.ensures.steps in
    let e = c.in_err-register.field-0.0 in
    passed_up c.from_residual.result e (Lacks c.args.emitter.now (variables_take (length c.args.vars.now))) c.from_residual.ensures.1
    (no_variable_more c.args.emitter.now c.loop-of.emitter (length c.loop-of.yielded) (length c.args.vars.now) e c.loop-of.invariant.0.registers_are turn.0 c.in_err-register.ensures.cause)
