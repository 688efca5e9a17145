use Rattle.lp_calculus.proofs.Fills as lemmas
use Rattle.lp_calculus.proofs.commuting.filling_twice.Goals as goal

pub returns : goal.returns
returns c = lemmas.fill-fill
