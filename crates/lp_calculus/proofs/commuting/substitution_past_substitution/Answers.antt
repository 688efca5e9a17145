use Rattle.lp_calculus.proofs.Commutations as lemmas
use Rattle.lp_calculus.proofs.commuting.substitution_past_substitution.Goals as goal

pub returns : goal.returns
returns c = lemmas.substitute_substitute
