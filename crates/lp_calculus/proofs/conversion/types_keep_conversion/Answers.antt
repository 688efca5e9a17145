use Rattle.lp_calculus.proofs.Commutations as lemmas
use Rattle.lp_calculus.proofs.conversion.types_keep_conversion.Goals as goal

pub returns : goal.returns
returns c = lemmas.instance_converts
