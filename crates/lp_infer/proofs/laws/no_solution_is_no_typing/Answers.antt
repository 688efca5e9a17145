use Rattle.lp_infer.proofs.Principal.{no_typing}
use Rattle.lp_infer.proofs.laws.no_solution_is_no_typing.Goals as goal

pub returns : goal.returns
returns c = no_typing
