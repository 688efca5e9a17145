use Rattle.lp_unify_laws.proofs.Trimmed as lemmas
use Rattle.lp_unify_laws.proofs.whole_runs.closings_have_none.Goals as goal

pub returns : goal.returns
returns c = lemmas.closings_have_none
