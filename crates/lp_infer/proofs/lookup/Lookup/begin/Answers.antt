use Rattle.std.proofs.Common.{refl}
use Rattle.std.proofs.lemmas.Result.{IfOk-weaker}
use Rattle.lp_infer.proofs.lookup.Lookup.begin.Goals as goal

pub returns : goal.returns
returns c = IfOk-weaker c.enter.result _ _ (λ outside h. record { steps = c.in_ok-push.ensures.items; types = refl; notes = refl; variables = refl; scope = h }) c.enter.ensures
