use Rattle.lp_code.proofs.WorkedRows.{worked}
use Rattle.lp_code.proofs.laws.worked_records.Goals as goal

pub returns : goal.returns
returns c = worked
