use Rattle.lp_search_laws.proofs.Decided as lemmas
use Rattle.lp_search_laws.proofs.negation.negated_goals_are_decided.Goals as goal

pub returns : goal.returns
returns c = λ n d std P t q z b E Es e es h w gs i x j steps k p ns. (lemmas.refuted n d std P t q z b E Es e es h w gs i x j steps k p ns, lemmas.held n d std P t q z b E Es e es h w gs i x j steps k p ns)
