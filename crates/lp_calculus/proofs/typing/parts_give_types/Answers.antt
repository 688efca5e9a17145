use Rattle.lp_calculus.proofs.Typings as lemmas
use Rattle.lp_calculus.proofs.typing.parts_give_types.Goals as goal

pub returns : goal.returns
returns c = lemmas.parts_typed
