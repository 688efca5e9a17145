use Rattle.lp_search_laws.proofs.negation_rows.types_of_parameters.Goals as goal
use Rattle.std.proofs.Common.{refl}

pub returns-clause-open_gives : goal.returns-clause-open_gives
returns-clause-open_gives c = refl

pub returns-clause-open_end : goal.returns-clause-open_end
returns-clause-open_end c = refl

pub returns-clause-this_gives : goal.returns-clause-this_gives
returns-clause-this_gives c = refl

pub returns-clause-this_end : goal.returns-clause-this_end
returns-clause-this_end c = refl

pub returns-clause-other_gives : goal.returns-clause-other_gives
returns-clause-other_gives c = refl
