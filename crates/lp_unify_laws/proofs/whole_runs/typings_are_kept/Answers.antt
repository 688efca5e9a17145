use Rattle.lp_unify_laws.proofs.Laws as lemmas
use Rattle.lp_unify_laws.proofs.whole_runs.typings_are_kept.Goals as goal

pub returns : goal.returns
returns c = lemmas.typings_are_kept
