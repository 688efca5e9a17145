use Rattle.lp_search_laws.proofs.Comes as lemmas
use Rattle.lp_search_laws.proofs.search.searches_come_to_one_value.Goals as goal

pub returns : goal.returns
returns c = λ P s t u a b. lemmas.one_value P s t u a b
