use Rattle.std.proofs.Common.{refl, subst, sym}
use Rattle.lp_plain.specs.declared.arithmetic.Step.TheVariants as step
use Rattle.lp_plain.specs.inner.Evaluating.{IsStep}
use Rattle.lp_plain.proofs.arithmetic.step_of.Goals as goal

pub returns-in-None : goal.returns-in-None
returns-in-None c = subst (λ o. IsStep o c.args.count (step.On c.args.count)) (sym c.in-None.is) refl

pub returns-in-Some : goal.returns-in-Some
returns-in-Some c = subst (λ o. IsStep o c.args.count (step.End c.in-Some.outcome)) (sym c.in-Some.is) refl
