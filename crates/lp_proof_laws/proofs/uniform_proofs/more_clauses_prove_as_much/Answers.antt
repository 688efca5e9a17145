use Rattle.lp_proof_laws.proofs.Uniform.Uniforms as lemmas
use Rattle.lp_proof_laws.proofs.uniform_proofs.more_clauses_prove_as_much.Goals as goal

pub returns : goal.returns
returns c = λ d E P R G st h. lemmas.wider d E P R G st h
