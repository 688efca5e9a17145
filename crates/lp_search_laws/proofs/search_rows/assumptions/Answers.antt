use Rattle.lp_search_laws.proofs.search_rows.assumptions.Goals as goal
use Rattle.std.proofs.Common.{refl}

pub returns-clause-assumed : goal.returns-clause-assumed
returns-clause-assumed c = refl

pub returns-clause-scoped : goal.returns-clause-scoped
returns-clause-scoped c = refl

pub returns-clause-newest_first : goal.returns-clause-newest_first
returns-clause-newest_first c = refl
