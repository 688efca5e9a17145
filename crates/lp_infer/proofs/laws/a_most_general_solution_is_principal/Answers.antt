use Rattle.lp_infer.proofs.Principal.{principal}
use Rattle.lp_infer.proofs.laws.a_most_general_solution_is_principal.Goals as goal

pub returns : goal.returns
returns c = principal
