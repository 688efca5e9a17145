use Rattle.lp_search_laws.proofs.Expressions as lemmas
use Rattle.lp_search_laws.proofs.arithmetic.values_under_closings.Goals as goal

pub returns : goal.returns
returns c = lemmas.under_closings
