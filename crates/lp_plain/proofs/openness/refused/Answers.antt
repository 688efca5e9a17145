use Rattle.std.proofs.Common.{subst}
use Rattle.lp_term.specs.Frame.{IsDeepBeta}
use Rattle.lp_plain.proofs.OpenGoals.{deep_judged}
use Rattle.lp_plain.proofs.openness.refused.Goals as goal

pub returns-in-Deep : goal.returns-in-Deep
returns-in-Deep c = λ t h. deep_judged c.in-Deep.field-0 t (subst (IsDeepBeta 1000000 1000000 t) c.in-Deep.is h)
