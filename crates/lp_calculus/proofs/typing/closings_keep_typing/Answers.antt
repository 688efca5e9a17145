use Rattle.lp_calculus.proofs.Typings as lemmas
use Rattle.lp_calculus.proofs.typing.closings_keep_typing.Goals as goal

pub returns : goal.returns
returns c = lemmas.typed_close
