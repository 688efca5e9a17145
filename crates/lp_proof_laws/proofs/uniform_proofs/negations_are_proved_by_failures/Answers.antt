use Rattle.lp_proof_laws.proofs.Uniform.Heads as lemmas
use Rattle.lp_model.specs.Proofs.{IsFailure}
use Rattle.lp_proof_laws.proofs.Uniform.Failing.{failures_convert}
use Rattle.lp_proof_laws.proofs.uniform_proofs.negations_are_proved_by_failures.Goals as goal

pub returns : goal.returns
returns c = λ d s k E P l H f p. lemmas.denial_root_by (IsFailure d k) d s E P H f (failures_convert d k P l) p
