use Rattle.lp_search_laws.proofs.WholeRight as lemmas
use Rattle.lp_search_laws.proofs.whole.plain_search_is_right.Goals as goal

pub returns : goal.returns
returns c = lemmas.search_is_right
