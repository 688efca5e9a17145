use Rattle.lp_proof_laws.proofs.Uniform.Settings.{without_leaves}
use Rattle.lp_search_laws.proofs.ArithmeticTasks as lemmas
use Rattle.lp_search_laws.proofs.arithmetic.assignments_are_equalities.Goals as goal

pub returns : goal.returns
returns c = λ n d std. lemmas.assignments_are_equalities n d (without_leaves d std)
