use Rattle.lp_search_laws.proofs.negation_rows.open_negations.Goals as goal
use Rattle.std.proofs.Common.{refl}

pub returns-clause-open_variable : goal.returns-clause-open_variable
returns-clause-open_variable c = refl

pub returns-clause-open_assumption : goal.returns-clause-open_assumption
returns-clause-open_assumption c = refl

pub returns-clause-cut_inside : goal.returns-clause-cut_inside
returns-clause-cut_inside c = refl
