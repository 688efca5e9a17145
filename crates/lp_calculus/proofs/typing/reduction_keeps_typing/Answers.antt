use Rattle.lp_calculus.proofs.Subject as lemmas
use Rattle.lp_calculus.proofs.typing.reduction_keeps_typing.Goals as goal

pub returns : goal.returns
returns c = λ τ C t s T r w. lemmas.typed_reduces τ C r T w
