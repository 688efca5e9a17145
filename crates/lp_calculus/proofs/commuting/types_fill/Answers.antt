use Rattle.lp_calculus.proofs.Commutations as lemmas
use Rattle.lp_calculus.proofs.commuting.types_fill.Goals as goal

pub returns : goal.returns
returns c = lemmas.instance_fill
