use Rattle.lp_unify_laws.proofs.Termination.Types.{types_come}
use Rattle.lp_unify_laws.proofs.outcomes.type_equations_come_to_an_outcome.Goals as goal

pub returns : goal.returns
returns c = λ eqs. types_come eqs
