use Rattle.lp_search_laws.proofs.search_rows.lists.Goals as goal
use Rattle.std.proofs.Common.{refl}

pub returns-clause-joined : goal.returns-clause-joined
returns-clause-joined c = refl

pub returns-clause-split : goal.returns-clause-split
returns-clause-split c = refl

pub returns-clause-split_notes : goal.returns-clause-split_notes
returns-clause-split_notes c = refl

pub returns-clause-split_end : goal.returns-clause-split_end
returns-clause-split_end c = refl

pub returns-clause-alternatives : goal.returns-clause-alternatives
returns-clause-alternatives c = refl

pub returns-clause-alternatives_notes : goal.returns-clause-alternatives_notes
returns-clause-alternatives_notes c = refl
