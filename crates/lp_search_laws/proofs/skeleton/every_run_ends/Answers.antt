use Rattle.lp_search_laws.proofs.Stack.Ends as lemmas
use Rattle.lp_search_laws.proofs.skeleton.every_run_ends.Goals as goal

pub returns : goal.returns
returns g c = λ look w f full s. lemmas.ends_full look w f full s
