use Rattle.lp_module.proofs.Joining.{program_declares}
use Rattle.lp_module.proofs.laws.programs_declare.Goals as goal

pub returns : goal.returns
returns c = λ modules root a p j. program_declares modules root a p j
