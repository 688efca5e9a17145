use Rattle.lp_search_laws.proofs.EnoughSteps as lemmas
use Rattle.lp_search_laws.proofs.enough.branches_have_enough.Goals as goal

pub returns : goal.returns
returns c = lemmas.branches_have_enough
