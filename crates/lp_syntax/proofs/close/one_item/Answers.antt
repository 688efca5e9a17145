use Rattle.lp_syntax.proofs.Arena.{grows_on, after_grows}
use Rattle.lp_syntax.proofs.close.one_item.Goals as goal

pub returns-clause-grows : goal.returns-clause-grows
returns-clause-grows c = after_grows _ _ _ c.add-3.result (grows_on _ _ _ c.in_ok-head.ensures.grows c.in_ok-first.ensures.grows) c.add-3.ensures.grows
