use Rattle.lp_search_laws.proofs.search_rows.cuts.Goals as goal
use Rattle.std.proofs.Common.{refl}

pub returns-clause-first_only : goal.returns-clause-first_only
returns-clause-first_only c = refl

pub returns-clause-first_only_end : goal.returns-clause-first_only_end
returns-clause-first_only_end c = refl

pub returns-clause-filtered : goal.returns-clause-filtered
returns-clause-filtered c = refl

pub returns-clause-local_cut : goal.returns-clause-local_cut
returns-clause-local_cut c = refl

pub returns-clause-local_cut_end : goal.returns-clause-local_cut_end
returns-clause-local_cut_end c = refl
