use Rattle.lp_proof_laws.proofs.Uniform.Assumptions as lemmas
use Rattle.lp_model.specs.Proofs.{IsFailure}
use Rattle.lp_proof_laws.proofs.Uniform.Failing.{failures_convert}
use Rattle.lp_proof_laws.proofs.uniform_proofs.assumptions_convert.Goals as goal

pub returns : goal.returns
returns c = λ d k E P l D F G f g c h. lemmas.converted_assumption (IsFailure d k) d E P D F G f g ((failures_convert d k P l).assumptions E D F f g c) c h
