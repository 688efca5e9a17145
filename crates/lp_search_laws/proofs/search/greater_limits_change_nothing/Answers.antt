use Rattle.lp_search_laws.proofs.Limits as lemmas
use Rattle.lp_search_laws.proofs.search.greater_limits_change_nothing.Goals as goal

pub returns : goal.returns
returns c = λ u v l n P j m t r q a b k lr la h. lemmas.greater_limits u v l n P j m t r q a b k lr la h
