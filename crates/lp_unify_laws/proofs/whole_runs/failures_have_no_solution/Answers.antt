use Rattle.lp_unify_laws.proofs.Laws as lemmas
use Rattle.lp_unify_laws.proofs.whole_runs.failures_have_no_solution.Goals as goal

pub returns : goal.returns
returns c = lemmas.failures_have_no_solution
