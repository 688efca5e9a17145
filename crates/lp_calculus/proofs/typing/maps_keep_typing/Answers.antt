use Rattle.lp_calculus.proofs.Subject as lemmas
use Rattle.lp_calculus.proofs.typing.maps_keep_typing.Goals as goal

pub returns : goal.returns
returns c = lemmas.typed_fill
