use Rattle.lp_calculus.proofs.Commutations as lemmas
use Rattle.lp_calculus.proofs.commuting.substitution_undoes_shift.Goals as goal

pub returns : goal.returns
returns c = lemmas.substitute_shift
