use Rattle.lp_search_laws.proofs.Stack.Events as lemmas
use Rattle.lp_search_laws.proofs.skeleton.answers_left_fall.Goals as goal

pub returns : goal.returns
returns g c = λ look t u a d. lemmas.gives_fewer look t u a d
