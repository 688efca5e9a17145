use Rattle.lp_type_laws.proofs.GoingOn.{going_on}
use Rattle.lp_type_laws.proofs.laws.going_on_is_most_general.Goals as goal

pub returns : goal.returns
returns c = going_on
