use Rattle.lp_unify_laws.proofs.Laws as lemmas
use Rattle.lp_unify_laws.proofs.whole_runs.types_solve_all.Goals as goal

pub returns : goal.returns
returns c = lemmas.types_solve_all
