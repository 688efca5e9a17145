use Rattle.lp_search_laws.proofs.EnoughSteps as lemmas
use Rattle.lp_search_laws.proofs.enough.more_steps_are_enough.Goals as goal

pub returns : goal.returns
returns c = lemmas.enough_more
