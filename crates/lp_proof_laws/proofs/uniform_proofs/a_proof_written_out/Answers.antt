use Rattle.lp_proof_laws.proofs.Uniform.Rows as rows
use Rattle.lp_proof_laws.proofs.uniform_proofs.a_proof_written_out.Goals as goal

pub returns : goal.returns
returns c = rows.hypothetical
