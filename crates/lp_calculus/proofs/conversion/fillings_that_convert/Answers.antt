use Rattle.lp_calculus.proofs.Commutations as lemmas
use Rattle.lp_calculus.proofs.conversion.fillings_that_convert.Goals as goal

pub returns : goal.returns
returns c = lemmas.fills_convert
