use Rattle.lp_proof_laws.proofs.Uniform.Settings.{without_leaves}
use Rattle.lp_search_laws.proofs.Computed as lemmas
use Rattle.lp_search_laws.proofs.arithmetic.assignments.Goals as goal

pub returns : goal.returns
returns c = λ d std. lemmas.assignments d (without_leaves d std)
