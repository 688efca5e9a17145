use Rattle.lp_type_laws.proofs.Solves.{fails_rightly}
use Rattle.lp_type_laws.proofs.laws.failing_have_no_solution.Goals as goal

pub returns : goal.returns
returns c = fails_rightly
