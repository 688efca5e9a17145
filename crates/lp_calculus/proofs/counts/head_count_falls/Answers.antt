use Rattle.lp_calculus.proofs.Countings as lemmas
use Rattle.lp_calculus.proofs.counts.head_count_falls.Goals as goal

pub returns : goal.returns
returns c = lemmas.head_count_falls
