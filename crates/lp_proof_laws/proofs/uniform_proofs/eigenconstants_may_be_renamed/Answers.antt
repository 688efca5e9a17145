use Rattle.lp_proof_laws.proofs.Uniform.Renamings as lemmas
use Rattle.lp_proof_laws.proofs.uniform_proofs.eigenconstants_may_be_renamed.Goals as goal

pub returns : goal.returns
returns c = λ d E F ρ i P G l m h. lemmas.provable_renamed d E F ρ i P G l m h
