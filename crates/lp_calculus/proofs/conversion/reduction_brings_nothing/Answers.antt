use Rattle.std.proofs.Common.{◌≡◌, true}
use Rattle.lp_calculus.proofs.Steps as lemmas
use Rattle.lp_calculus.proofs.conversion.reduction_brings_nothing.Goals as goal

pub returns : goal.returns
returns c = λ p d t s r w. lemmas.within_reduces (λ a. p a ≡ true) d r w
