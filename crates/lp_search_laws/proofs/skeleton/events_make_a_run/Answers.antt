use Rattle.lp_search_laws.proofs.Stack.Events as lemmas
use Rattle.lp_search_laws.proofs.skeleton.events_make_a_run.Goals as goal

pub returns : goal.returns
returns g c = λ look s t u told e h d. lemmas.gathers_over look s t u told e h d
