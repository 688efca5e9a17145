use Rattle.lp_sig.proofs.OrderedSignatures.{bodies_whole}
use Rattle.lp_sig.proofs.laws.bodies_are_whole.Goals as goal

pub returns : goal.returns
returns c = bodies_whole
