use Rattle.lp_model.specs.Proofs.{no_leaf}
use Rattle.lp_search_laws.proofs.Standing as lemmas
use Rattle.lp_search_laws.proofs.views.proved_branches_answer.Goals as goal

pub returns : goal.returns
returns c = lemmas.proved_branches_answer no_leaf
