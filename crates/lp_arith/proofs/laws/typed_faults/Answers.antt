use Rattle.lp_arith.proofs.Etas.{typed_fault}
use Rattle.lp_arith.proofs.laws.typed_faults.Goals as goal

pub returns : goal.returns
returns c = typed_fault
