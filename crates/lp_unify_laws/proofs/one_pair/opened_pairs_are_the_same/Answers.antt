use Rattle.lp_unify_laws.proofs.PairLaws as lemmas
use Rattle.lp_unify_laws.proofs.one_pair.opened_pairs_are_the_same.Goals as goal

pub returns : goal.returns
returns c = lemmas.opened_pairs_are_the_same
