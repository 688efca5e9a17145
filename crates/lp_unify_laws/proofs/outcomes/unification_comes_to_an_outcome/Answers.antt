use Rattle.lp_unify_laws.proofs.Termination.Runs.{solve_comes}
use Rattle.lp_unify_laws.proofs.Termination.Pruning.{prunes_typed}
use Rattle.lp_unify_laws.proofs.outcomes.unification_comes_to_an_outcome.Goals as goal

pub returns : goal.returns
returns c = λ d V eqs ps ds h limit. solve_comes d (prunes_typed d) V eqs ps ds h limit
