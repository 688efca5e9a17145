use Rattle.lp_proof_laws.proofs.Uniform.Settings.{without_leaves}
use Rattle.lp_search_laws.proofs.Programs as lemmas
use Rattle.lp_search_laws.proofs.start.programs_read_back.Goals as goal

pub returns : goal.returns
returns c = λ d std F P s x E Q G. lemmas.program_reads_back d (without_leaves d std) F P s x E ((λ S n y H f h. h), (λ S n y H f h. h)) Q G
