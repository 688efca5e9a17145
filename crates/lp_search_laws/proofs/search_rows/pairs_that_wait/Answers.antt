use Rattle.lp_search_laws.proofs.search_rows.pairs_that_wait.Goals as goal
use Rattle.std.proofs.Common.{refl}

pub returns-clause-delayed : goal.returns-clause-delayed
returns-clause-delayed c = refl

pub returns-clause-woken : goal.returns-clause-woken
returns-clause-woken c = refl

pub returns-clause-circular : goal.returns-clause-circular
returns-clause-circular c = refl

pub returns-clause-flexible : goal.returns-clause-flexible
returns-clause-flexible c = refl
