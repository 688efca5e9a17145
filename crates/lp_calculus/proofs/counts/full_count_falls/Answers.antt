use Rattle.lp_calculus.proofs.Countings as lemmas
use Rattle.lp_calculus.proofs.counts.full_count_falls.Goals as goal

pub returns : goal.returns
returns c = lemmas.full_count_falls
