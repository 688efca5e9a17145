use Rattle.lp_proof_laws.proofs.Uniform.Settings.{without_leaves}
use Rattle.lp_search_laws.proofs.EqualStands as lemmas
use Rattle.lp_search_laws.proofs.views.equalities_stand.Goals as goal

pub returns : goal.returns
returns c = λ n d std. lemmas.equality_stands n d (without_leaves d std)
