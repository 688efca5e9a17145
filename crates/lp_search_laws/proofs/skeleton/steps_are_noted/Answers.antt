use Rattle.lp_search_laws.proofs.Stack.Moves as lemmas
use Rattle.lp_search_laws.proofs.skeleton.steps_are_noted.Goals as goal

pub returns : goal.returns
returns g c = λ look j n s. lemmas.steps_are_noted look j n s
