use Rattle.lp_proof_laws.proofs.Uniform.Settings.{without_leaves}
use Rattle.lp_search_laws.proofs.Looked as lemmas
use Rattle.lp_search_laws.proofs.views.goals_are_taken_apart.Goals as goal

pub returns : goal.returns
returns c = λ n height d std. lemmas.goals_are_taken_apart n height d (without_leaves d std)
