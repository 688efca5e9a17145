use Rattle.lp_calculus.proofs.BetaEta as lemmas
use Rattle.lp_calculus.proofs.conversion.normal_forms_agree.Goals as goal

pub returns : goal.returns
returns c = lemmas.normal_same
