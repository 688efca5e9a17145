use Rattle.std.proofs.Common.{refl, subst, sym, Err}
use Rattle.lp_model.specs.declared.ending.Ending.TheVariants as ending
use Rattle.lp_plain.specs.Assigned.{IsNumberOr}
use Rattle.lp_plain.proofs.atomic.number_of.Goals as goal

pub returns-in-Deep : goal.returns-in-Deep
returns-in-Deep c = subst (λ o. IsNumberOr o (Err ending.Deep)) (sym c.in-Deep.is) refl

pub returns-in-Faults : goal.returns-in-Faults
returns-in-Faults c = subst (λ o. IsNumberOr o (Err (ending.Arithmetic c.in-Faults.fault))) (sym c.in-Faults.is) refl

pub returns-in-Is : goal.returns-in-Is
returns-in-Is c = subst (λ o. IsNumberOr o c.number_in.result) (sym c.in-Is.is) c.number_in.ensures
