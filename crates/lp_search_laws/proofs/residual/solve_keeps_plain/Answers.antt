use Rattle.lp_search_laws.proofs.RunsKeep as lemmas
use Rattle.lp_search_laws.proofs.residual.solve_keeps_plain.Goals as goal

pub returns : goal.returns
returns c = lemmas.solve_keeps_plain
