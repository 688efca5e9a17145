use Rattle.lp_search_laws.proofs.Kept as lemmas
use Rattle.lp_search_laws.proofs.equality.goals_go_through.Goals as goal

pub returns : goal.returns
returns c = lemmas.goals_go_through
