use Rattle.std.proofs.Common.{map, arith}
use Rattle.lp_lemmas.proofs.Results.{passed_up}
use Rattle.lp_sig.specs.Walking.{IsFirstCircleFault}
use Rattle.lp_sig.specs.declared.walk.Step.TheVariants.{Enter}
use Rattle.lp_sig.proofs.Circles.{after_declare, after_enter, first_fault, all_steps}
use Rattle.lp_sig.proofs.walk.Ways.check_circles.Goals as goal

pub loop-step-init : goal.loop-step-init
loop-step-init c = λ j d. absurd (omega (arith, d.1))

pub loop-step-preserved-in_default : goal.loop-step-preserved-in_default
loop-step-preserved-in_default c = after_declare (map (λ out. out.items) c.args.self.now.ways.items) c.args.steps.now c.loop-step.step-index _ c.in_default.field-0 c.loop-step-test.true c.in_default.is c.loop-step.invariant

pub loop-step-preserved : goal.loop-step-preserved
loop-step-preserved c = after_enter (map (λ out. out.items) c.args.self.now.ways.items) c.args.steps.now c.loop-step.step-index _ c.in-Enter.at c.loop-step-test.true c.in-Enter.is c.loop-step.invariant c.in_ok-check_words.ensures.none

pub returns-in_err-check_words-clause-circle : goal.returns-in_err-check_words-clause-circle
returns-in_err-check_words-clause-circle c =
    passed_up c.from_residual.result c.in_err-check_words.field-0.0 (IsFirstCircleFault (map (λ out. out.items) c.args.self.now.ways.items) c.args.steps.now) c.from_residual.ensures.1
    (first_fault (map (λ out. out.items) c.args.self.now.ways.items) c.args.steps.now c.loop-step.step-index _ c.in-Enter.at c.in_err-check_words.field-0.0 c.loop-step-test.true c.in-Enter.is c.loop-step.invariant c.in_err-check_words.ensures.circle)

pub returns-clause-none : goal.returns-clause-none
returns-clause-none c = all_steps (map (λ out. out.items) c.args.self.now.ways.items) c.args.steps.now c.loop-step.step-index (Enter 0) c.loop-step-test.false c.loop-step.invariant
