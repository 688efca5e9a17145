use Rattle.lp_proof_laws.proofs.Uniform.Unnegated as lemmas
use Rattle.lp_proof_laws.proofs.uniform_proofs.proofs_without_negation_are_plain.Goals as goal

pub returns : goal.returns
returns c = λ d k E P G s w h. lemmas.unnegated_plain d k E P G s w h
