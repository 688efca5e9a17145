use Rattle.lp_calculus.specs.Convert.{head_step}
use Rattle.lp_calculus.proofs.Countings as lemmas
use Rattle.lp_calculus.proofs.counts.head_counts_are_one.Goals as goal

pub returns : goal.returns
returns c = λ n m t s r h k. lemmas.one_end head_step n m t s r h.0 h.1 k.0 k.1
