use Rattle.lp_proof_laws.proofs.Flattened.ReadsBack as lemmas
use Rattle.lp_proof_laws.proofs.flattening.flattened_goals_read_back.Goals as goal

pub returns : goal.returns
returns c = λ d s n t gs e f E P. lemmas.goals_read_back d s n t gs e f E P
