use Rattle.lp_calculus.proofs.Typings as lemmas
use Rattle.lp_calculus.proofs.typing.substitution_keeps_typing.Goals as goal

pub returns : goal.returns
returns c = lemmas.typed_substitute
