use Rattle.lp_search_laws.proofs.Stack.Moves as lemmas
use Rattle.lp_search_laws.proofs.skeleton.moves_tell.Goals as goal

pub returns : goal.returns
returns g c = λ look j n s. lemmas.told_by_moves look j n s
