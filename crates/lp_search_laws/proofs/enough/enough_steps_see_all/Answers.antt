use Rattle.lp_search_laws.proofs.SameViews as lemmas
use Rattle.lp_search_laws.proofs.enough.enough_steps_see_all.Goals as goal

pub returns : goal.returns
returns c = lemmas.view_same
