use Rattle.lp_search_laws.proofs.negation_rows.negations_of_closed_goals.Goals as goal
use Rattle.std.proofs.Common.{refl}

pub returns-clause-some_q : goal.returns-clause-some_q
returns-clause-some_q c = refl

pub returns-clause-some_q_end : goal.returns-clause-some_q_end
returns-clause-some_q_end c = refl

pub returns-clause-new_name : goal.returns-clause-new_name
returns-clause-new_name c = refl

pub returns-clause-assumed : goal.returns-clause-assumed
returns-clause-assumed c = refl

pub returns-clause-assumed_end : goal.returns-clause-assumed_end
returns-clause-assumed_end c = refl
