use Rattle.lp_search_laws.proofs.Expressions as lemmas
use Rattle.lp_search_laws.proofs.arithmetic.values_are_unique.Goals as goal

pub returns : goal.returns
returns c = lemmas.one_value
