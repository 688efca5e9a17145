use Rattle.lp_unify_laws.proofs.Laws as lemmas
use Rattle.lp_unify_laws.proofs.one_pair.same_terms_convert.Goals as goal

pub returns : goal.returns
returns c = lemmas.same_terms_convert
