use Rattle.lp_proof_laws.proofs.Uniform.Settings.{without_leaves}
use Rattle.lp_search_laws.proofs.Goals as lemmas
use Rattle.lp_search_laws.proofs.taken_apart.flat_goals.Goals as goal

pub returns : goal.returns
returns c = λ d std. lemmas.flat_goals d (without_leaves d std)
