use Rattle.lp_calculus.specs.Convert.{head_step}
use Rattle.lp_calculus.proofs.Countings as lemmas
use Rattle.lp_calculus.proofs.counts.head_counts_are_whole.Goals as goal

pub returns : goal.returns
returns c = λ n m t s h l k. lemmas.not_past head_step n m t s h.0 h.1 l k
