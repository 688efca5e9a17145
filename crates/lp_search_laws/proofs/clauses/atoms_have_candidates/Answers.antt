use Rattle.lp_proof_laws.proofs.Uniform.Settings.{without_leaves}
use Rattle.lp_search_laws.proofs.Candidates as lemmas
use Rattle.lp_search_laws.proofs.clauses.atoms_have_candidates.Goals as goal

pub returns : goal.returns
returns c = λ d std E P A z t ps qs i f. ((λ p. lemmas.some_candidate d (without_leaves d std) E P A z t ps qs i f p), (λ h. lemmas.candidate_proves d (without_leaves d std) E P A z t ps qs i h))
