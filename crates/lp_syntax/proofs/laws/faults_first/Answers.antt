use Rattle.lp_syntax.proofs.Reading.{fault_is_first}
use Rattle.lp_syntax.proofs.laws.faults_first.Goals as goal

pub returns : goal.returns
returns c = fault_is_first
