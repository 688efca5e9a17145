use Rattle.lp_proof_laws.proofs.Uniform.Roots as lemmas
use Rattle.lp_model.specs.Proofs.{IsFailure}
use Rattle.lp_proof_laws.proofs.Uniform.Failing.{failures_convert}
use Rattle.lp_proof_laws.proofs.uniform_proofs.proofs_begin_at_the_head.Goals as goal

pub returns : goal.returns
returns c = λ d s k E P l a us f p. lemmas.rooted_by (IsFailure d k) d s E P a us f (failures_convert d k P l) p
