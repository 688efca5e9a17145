use Rattle.lp_unify_laws.proofs.Principal as lemmas
use Rattle.lp_unify_laws.proofs.whole_runs.closings_are_the_same.Goals as goal

pub returns : goal.returns
returns c = lemmas.closings_are_the_same
