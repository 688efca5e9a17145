use Rattle.lp_object.specs.Plain.{plain_image}
use Rattle.lp_object.proofs.Answered.{fault_told}
use Rattle.lp_object.proofs.image.read_told.Goals as goal

pub returns-in-Err-clause-exact : goal.returns-in-Err-clause-exact
returns-in-Err-clause-exact c = fault_told plain_image c.in-Err.error c.from.result _ c.from.ensures c.in-Err.ensures.read
