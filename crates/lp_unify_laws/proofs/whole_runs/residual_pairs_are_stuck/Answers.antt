use Rattle.lp_unify_laws.proofs.Laws as lemmas
use Rattle.lp_unify_laws.proofs.whole_runs.residual_pairs_are_stuck.Goals as goal

pub returns : goal.returns
returns c = lemmas.residual_pairs_are_stuck
