use Rattle.lp_search_laws.proofs.Matching as lemmas
use Rattle.lp_search_laws.proofs.tries.solved_clauses_apply.Goals as goal

pub returns : goal.returns
returns c = lemmas.match_applies
