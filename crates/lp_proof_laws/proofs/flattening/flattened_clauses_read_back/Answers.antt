use Rattle.lp_proof_laws.proofs.Flattened.ReadsBack as lemmas
use Rattle.lp_proof_laws.proofs.flattening.flattened_clauses_read_back.Goals as goal

pub returns : goal.returns
returns c = λ d s n x cs e f E P G. lemmas.clauses_read_back d s n x cs e f E P G
