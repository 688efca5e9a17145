use Rattle.lp_search_laws.proofs.TryMatches as lemmas
use Rattle.lp_search_laws.proofs.enough.tries_have_enough.Goals as goal

pub returns : goal.returns
returns c = lemmas.tries_have_enough
