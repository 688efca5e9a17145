use Rattle.lp_proof_laws.proofs.Uniform.Settings.{without_leaves}
use Rattle.lp_search_laws.proofs.Connectives as lemmas
use Rattle.lp_search_laws.proofs.taken_apart.equalities.Goals as goal

pub returns : goal.returns
returns c = λ d std E P z T a b k f. lemmas.equal_holds d (without_leaves d std) E P z T a b f
