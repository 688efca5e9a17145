use Rattle.lp_proof_laws.proofs.Uniform.Uniforms.{by_leaves}
use Rattle.lp_search_laws.proofs.FailedSearches as lemmas
use Rattle.lp_search_laws.proofs.leaves.leaves_in_order_are_leaves.Goals as goal

pub returns-clause-leaves : goal.returns-clause-leaves
returns-clause-leaves c = λ o d P E R G f h. lemmas.any_order o d P E R G f h

pub returns-clause-proofs : goal.returns-clause-proofs
returns-clause-proofs c = λ o d P E R G p. by_leaves (λ F Q H f h. lemmas.any_order o d P F Q H f h) d E R G p
