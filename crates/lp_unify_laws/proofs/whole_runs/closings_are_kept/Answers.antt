use Rattle.lp_unify_laws.proofs.Trimmed as lemmas
use Rattle.lp_unify_laws.proofs.whole_runs.closings_are_kept.Goals as goal

pub returns : goal.returns
returns c = lemmas.closings_are_kept
