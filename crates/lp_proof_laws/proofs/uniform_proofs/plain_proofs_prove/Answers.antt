use Rattle.lp_proof_laws.proofs.Uniform.Uniforms as lemmas
use Rattle.lp_proof_laws.proofs.uniform_proofs.plain_proofs_prove.Goals as goal

pub returns : goal.returns
returns c = λ d k E P G h. lemmas.plain_proof d k E P G h
