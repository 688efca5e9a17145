use Rattle.lp_sig.proofs.OrderedSignatures.{signature_ordered}
use Rattle.lp_sig.proofs.laws.signatures_are_ordered.Goals as goal

pub returns : goal.returns
returns c = signature_ordered
