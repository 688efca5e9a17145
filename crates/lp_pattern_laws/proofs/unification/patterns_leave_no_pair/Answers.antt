use Rattle.lp_pattern_laws.proofs.Turned.{solve_well}
use Rattle.lp_pattern_laws.proofs.unification.patterns_leave_no_pair.Goals as goal

pub returns : goal.returns
returns c = λ θ d V n limit eqs ps s w h e all. solve_well θ d V n limit eqs ps s w h e all
