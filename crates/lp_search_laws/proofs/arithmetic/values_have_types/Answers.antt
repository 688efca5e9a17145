use Rattle.lp_search_laws.proofs.Computed as lemmas
use Rattle.lp_search_laws.proofs.arithmetic.values_have_types.Goals as goal

pub returns : goal.returns
returns c = lemmas.values_have_types
