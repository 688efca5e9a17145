use Rattle.lp_proof_laws.proofs.Uniform.Settings.{without_leaves}
use Rattle.lp_search_laws.proofs.Tried as lemmas
use Rattle.lp_search_laws.proofs.clauses.atoms_are_tried.Goals as goal

pub returns : goal.returns
returns c = λ n height d std. lemmas.atoms_are_tried n height d (without_leaves d std)
