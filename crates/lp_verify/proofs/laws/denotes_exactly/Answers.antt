use Rattle.lp_verify.proofs.Denoted.{denotes_exactly}
use Rattle.lp_verify.proofs.laws.denotes_exactly.Goals as goal

pub returns : goal.returns
returns c = denotes_exactly
