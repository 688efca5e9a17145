use Rattle.lp_syntax.proofs.Arena.{after_grows}
use Rattle.lp_syntax.proofs.close.bound.Goals as goal

pub returns-in-Some-clause-grows : goal.returns-in-Some-clause-grows
returns-in-Some-clause-grows c = after_grows _ _ _ c.add-in-Some.result c.in_ok-lam.ensures.grows c.add-in-Some.ensures.grows
