use Rattle.lp_calculus.proofs.Steps as lemmas
use Rattle.lp_calculus.proofs.conversion.filling_keeps_conversion.Goals as goal

pub returns : goal.returns
returns c = λ f t s x. lemmas.converts_fill f x
