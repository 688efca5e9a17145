use Rattle.lp_module.proofs.NoLoose.{closed_program}
use Rattle.lp_module.proofs.laws.program_is_closed.Goals as goal

pub returns : goal.returns
returns c = closed_program
