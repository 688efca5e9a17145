use Rattle.lp_object.specs.Plain.{plain_object}
use Rattle.lp_object.proofs.Answered.{fault_told}
use Rattle.lp_object.proofs.object.read_told.Goals as goal

pub returns-in-Err-clause-exact : goal.returns-in-Err-clause-exact
returns-in-Err-clause-exact c = fault_told plain_object c.in-Err.error c.from.result _ c.from.ensures c.in-Err.ensures.read
