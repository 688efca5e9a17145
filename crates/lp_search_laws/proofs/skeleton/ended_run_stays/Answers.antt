use Rattle.lp_search_laws.proofs.Stack.Ends as lemmas
use Rattle.lp_search_laws.proofs.skeleton.ended_run_stays.Goals as goal

pub returns : goal.returns
returns g c = λ look j k n m l l' s e h. lemmas.stays_over look j k n m l l' s e h
