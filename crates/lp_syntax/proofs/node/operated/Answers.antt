use Rattle.lp_syntax.proofs.Arena.{grows_on, after_grows}
use Rattle.lp_syntax.proofs.node.operated.Goals as goal

pub returns-in-None-clause-grows : goal.returns-in-None-clause-grows
returns-in-None-clause-grows c = after_grows _ _ _ c.add-in-None.result c.in_ok-leaf.ensures.grows c.add-in-None.ensures.grows

pub returns-in_ok-first-in-Some-clause-grows : goal.returns-in_ok-first-in-Some-clause-grows
returns-in_ok-first-in-Some-clause-grows c = after_grows _ _ _ c.add-in-Some-2.result (grows_on _ _ _ c.in_ok-leaf.ensures.grows c.in_ok-first-in-Some.ensures.grows) c.add-in-Some-2.ensures.grows
