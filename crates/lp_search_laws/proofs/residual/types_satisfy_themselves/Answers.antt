use Rattle.lp_search_laws.proofs.RunsKeep as lemmas
use Rattle.lp_search_laws.proofs.residual.types_satisfy_themselves.Goals as goal

pub returns : goal.returns
returns c = lemmas.types_satisfy_themselves
