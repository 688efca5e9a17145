use Rattle.std.proofs.Common.{◌≡◌, ◌∙◌, sym, subst, arith, drop, ap, get_or, false, refl}
use Rattle.lp_module.specs.inner.Judging.{IsAround}
use Rattle.lp_module.proofs.Parting.{at_drop, none_at_drop}
use Rattle.lp_module.proofs.judge.Parts.is_goal_variable.Goals as goal

pub loop-step-init : goal.loop-step-init
loop-step-init c = λ around a. a

pub loop-step-preserved : goal.loop-step-preserved
loop-step-preserved c = λ around a.
    let (outer, is, i) = c.in-Some.ensures.some (drop c.loop-step.step around) (c.loop-step.invariant around a) in
    subst (IsAround c.args.self.now.binders.items c.in-Some.inner.outer) (sym (at_drop around c.loop-step.step _ outer is).1) i

pub returns-in-None : goal.returns-in-None
returns-in-None c = λ around a. sym (none_at_drop around c.loop-step.step c.args.index (c.in-None.ensures.none refl (drop c.loop-step.step around) (c.loop-step.invariant around a)) (omega (arith, c.loop-step-test.true)))

pub returns-in-None-binder : goal.returns-in-None-binder
returns-in-None-binder c = λ around a. sym (none_at_drop around c.loop-step.step c.args.index (c.in-None-binder.ensures.none refl (drop c.loop-step.step around) (c.loop-step.invariant around a)) c.loop-step.auto.step-end)

pub returns-in-Some-binder : goal.returns-in-Some-binder
returns-in-Some-binder c = λ around a.
    let (outer, is, i) = c.in-Some-binder.ensures.some (drop c.loop-step.step around) (c.loop-step.invariant around a) in
    let z : c.loop-step.step ≡ c.args.index = omega (arith, c.loop-step-test.false, c.loop-step.auto.step-end) in
    sym (ap (λ k. get_or around k false) (sym z) ∙ (at_drop around c.loop-step.step _ outer is).0)
