use Rattle.lp_calculus.proofs.Commutations as lemmas
use Rattle.lp_calculus.proofs.commuting.filling_past_shift.Goals as goal

pub returns : goal.returns
returns c = lemmas.fill_shift
