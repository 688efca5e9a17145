use Rattle.lp_sig.proofs.WorkedRows.{worked}
use Rattle.lp_sig.proofs.laws.worked_signature.Goals as goal

pub returns : goal.returns
returns c = worked
