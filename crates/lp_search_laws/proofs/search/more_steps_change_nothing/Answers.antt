use Rattle.lp_search_laws.proofs.MoreSteps as lemmas
use Rattle.lp_search_laws.proofs.search.more_steps_change_nothing.Goals as goal

pub returns : goal.returns
returns c = λ u n m h P j k i l x y s e r. lemmas.more_steps_same u n m h P j k i l x y s e r
