use Rattle.lp_type_laws.specs.Solving.{solved}
use Rattle.lp_type_laws.proofs.GoingOn.{as_without}
use Rattle.lp_type_laws.proofs.laws.a_limit_changes_no_outcome.Goals as goal

pub returns : goal.returns
returns c = λ limit used es θ ι e. as_without limit used (solved ι) es θ e
