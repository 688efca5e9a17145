use Rattle.lp_type_laws.proofs.GoingOn.{passed}
use Rattle.lp_type_laws.proofs.laws.a_limit_is_passed_by_units.Goals as goal

pub returns : goal.returns
returns c = passed
