use Rattle.lp_proof_laws.proofs.Uniform.Settings.{without_leaves}
use Rattle.lp_search_laws.proofs.TriesRight as lemmas
use Rattle.lp_search_laws.proofs.views.tries_stand.Goals as goal

pub returns : goal.returns
returns c = λ n d std. lemmas.tries_stand n d (without_leaves d std)
