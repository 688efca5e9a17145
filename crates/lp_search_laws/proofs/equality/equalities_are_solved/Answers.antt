use Rattle.lp_proof_laws.proofs.Uniform.Settings.{without_leaves}
use Rattle.lp_search_laws.proofs.Equated as lemmas
use Rattle.lp_search_laws.proofs.equality.equalities_are_solved.Goals as goal

pub returns : goal.returns
returns c = λ d std. lemmas.equalities_are_solved d (without_leaves d std)
