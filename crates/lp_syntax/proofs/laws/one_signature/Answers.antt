use Rattle.lp_syntax.proofs.LineUnique.{one_signature}
use Rattle.lp_syntax.proofs.laws.one_signature.Goals as goal

pub returns : goal.returns
returns c = one_signature
