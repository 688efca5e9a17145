use Rattle.lp_proof_laws.proofs.Flattened.Filled as lemmas
use Rattle.lp_proof_laws.proofs.flattening.filled_goals_stay_filled.Goals as goal

pub returns : goal.returns
returns c = lemmas.stay_filled
