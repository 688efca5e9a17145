use Rattle.lp_search_laws.proofs.Matching as lemmas
use Rattle.lp_search_laws.proofs.tries.applying_clauses_are_solved.Goals as goal

pub returns : goal.returns
returns c = lemmas.match_solved
