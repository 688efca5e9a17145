use Rattle.lp_search_laws.proofs.Tested as lemmas
use Rattle.lp_search_laws.proofs.negation.tested_values_are_closed.Goals as goal

pub returns : goal.returns
returns c = λ n w e z. lemmas.tested_stays n w e z
