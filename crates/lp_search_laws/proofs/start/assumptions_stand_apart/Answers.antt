use Rattle.lp_proof_laws.proofs.Uniform.Settings.{without_leaves}
use Rattle.lp_search_laws.proofs.Programs as lemmas
use Rattle.lp_search_laws.proofs.start.assumptions_stand_apart.Goals as goal

pub returns : goal.returns
returns c = λ d std E P z cs G f. lemmas.stand_apart d (without_leaves d std) E P z cs f G
