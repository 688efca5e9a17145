use Rattle.lp_calculus.proofs.Fills as lemmas
use Rattle.lp_calculus.proofs.commuting.filling_past_substitution.Goals as goal

pub returns : goal.returns
returns c = lemmas.fill-substitute
