use Rattle.std.proofs.Common.{ap, refl, subst, sym, None, Some}
use Rattle.lp_plain.specs.inner.Evaluating.{IsKept}
use Rattle.lp_plain.proofs.arithmetic.keep.Goals as goal

pub returns-in_ok-push-in-Is : goal.returns-in_ok-push-in-Is
returns-in_ok-push-in-Is c = subst (λ o. IsKept o None c.args.values.now.items c.push.new.self.items) (sym c.in-Is.is) (refl, c.in_ok-push-in-Is.ensures.items)

pub returns-in-Faults : goal.returns-in-Faults
returns-in-Faults c = subst (λ o. IsKept o (Some c.args.outcome) c.args.values.now.items c.args.values.now.items) (sym c.in-Faults.is) (ap Some c.in-Faults.is)

pub returns-in-Deep : goal.returns-in-Deep
returns-in-Deep c = subst (λ o. IsKept o (Some c.args.outcome) c.args.values.now.items c.args.values.now.items) (sym c.in-Deep.is) (ap Some c.in-Deep.is)
