use Rattle.lp_proof_laws.proofs.Uniform.Uniforms as lemmas
use Rattle.lp_proof_laws.proofs.uniform_proofs.provable_up_to_conversion.Goals as goal

pub returns : goal.returns
returns c = λ d k E P G H f c h. lemmas.by_conversion d E P G H f c h
