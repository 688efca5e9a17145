use Rattle.lp_type_laws.proofs.Ends.{solve_ends}
use Rattle.lp_type_laws.proofs.laws.solving_ends.Goals as goal

pub returns : goal.returns
returns c = solve_ends
