use Rattle.lp_unify_laws.proofs.Laws as lemmas
use Rattle.lp_unify_laws.proofs.whole_runs.solutions_are_not_added.Goals as goal

pub returns : goal.returns
returns c = lemmas.solutions_are_not_added
