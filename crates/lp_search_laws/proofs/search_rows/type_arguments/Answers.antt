use Rattle.lp_search_laws.proofs.search_rows.type_arguments.Goals as goal
use Rattle.std.proofs.Common.{refl}

pub returns-clause-tagged : goal.returns-clause-tagged
returns-clause-tagged c = refl

pub returns-clause-tagged_end : goal.returns-clause-tagged_end
returns-clause-tagged_end c = refl
