use Rattle.lp_search_laws.proofs.search_rows.levels.Goals as goal
use Rattle.std.proofs.Common.{refl}

pub returns-clause-too_old : goal.returns-clause-too_old
returns-clause-too_old c = refl

pub returns-clause-too_old_end : goal.returns-clause-too_old_end
returns-clause-too_old_end c = refl

pub returns-clause-function : goal.returns-clause-function
returns-clause-function c = refl

pub returns-clause-swapped : goal.returns-clause-swapped
returns-clause-swapped c = refl

pub returns-clause-siblings : goal.returns-clause-siblings
returns-clause-siblings c = refl

pub returns-clause-some_term : goal.returns-clause-some_term
returns-clause-some_term c = refl
