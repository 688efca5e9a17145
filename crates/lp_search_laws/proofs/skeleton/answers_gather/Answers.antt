use Rattle.lp_search_laws.proofs.Stack.Events as lemmas
use Rattle.lp_search_laws.proofs.skeleton.answers_gather.Goals as goal

pub returns : goal.returns
returns g c = λ look s t u told a h d. lemmas.gathers_more look s t u told a h d
