use Rattle.lp_calculus.proofs.Commutations as lemmas
use Rattle.lp_calculus.proofs.heads.abstraction_opens.Goals as goal

pub returns : goal.returns
returns c = lemmas.abstraction_opens
