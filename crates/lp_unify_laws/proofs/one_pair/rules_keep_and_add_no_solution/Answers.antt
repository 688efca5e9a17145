use Rattle.lp_unify_laws.proofs.PairLaws as lemmas
use Rattle.lp_unify_laws.proofs.one_pair.rules_keep_and_add_no_solution.Goals as goal

pub returns : goal.returns
returns c = lemmas.rules_keep_and_add_no_solution
