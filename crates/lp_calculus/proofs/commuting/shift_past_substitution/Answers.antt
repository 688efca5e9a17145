use Rattle.lp_calculus.proofs.Commutations as lemmas
use Rattle.lp_calculus.proofs.commuting.shift_past_substitution.Goals as goal

pub returns : goal.returns
returns c = lemmas.shift_substitute
