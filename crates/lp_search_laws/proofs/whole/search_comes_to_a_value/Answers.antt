use Rattle.lp_search_laws.proofs.Comes as lemmas
use Rattle.lp_search_laws.proofs.whole.search_comes_to_a_value.Goals as goal

pub returns : goal.returns
returns c = lemmas.search_comes
