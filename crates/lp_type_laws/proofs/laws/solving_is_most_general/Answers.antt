use Rattle.lp_type_laws.proofs.Solves.{solves}
use Rattle.lp_type_laws.proofs.laws.solving_is_most_general.Goals as goal

pub returns : goal.returns
returns c = solves
