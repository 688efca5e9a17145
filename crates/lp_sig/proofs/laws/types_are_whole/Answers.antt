use Rattle.lp_sig.proofs.WholeTypes.{types_whole}
use Rattle.lp_sig.proofs.laws.types_are_whole.Goals as goal

pub returns : goal.returns
returns c = types_whole
