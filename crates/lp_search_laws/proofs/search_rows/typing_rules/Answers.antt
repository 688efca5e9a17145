use Rattle.lp_search_laws.proofs.search_rows.typing_rules.Goals as goal
use Rattle.std.proofs.Common.{refl}

pub returns-clause-identity : goal.returns-clause-identity
returns-clause-identity c = refl

pub returns-clause-self_application : goal.returns-clause-self_application
returns-clause-self_application c = refl

pub returns-clause-self_application_end : goal.returns-clause-self_application_end
returns-clause-self_application_end c = refl
