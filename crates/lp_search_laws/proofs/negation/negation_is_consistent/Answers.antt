use Rattle.lp_search_laws.proofs.Consistent as lemmas
use Rattle.lp_search_laws.proofs.negation.negation_is_consistent.Goals as goal

pub returns : goal.returns
returns c = λ d std P t E R G f p r. lemmas.never_both d std P t E R G f p r
