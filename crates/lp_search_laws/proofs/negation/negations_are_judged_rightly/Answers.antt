use Rattle.lp_search_laws.proofs.Judged as lemmas
use Rattle.lp_search_laws.proofs.negation.negations_are_judged_rightly.Goals as goal

pub returns : goal.returns
returns c = λ n d std P t u q z b E Es e es h w gs i v a j steps k p ns.
    (lemmas.refuted n d std P t u q z b E Es e es h w gs i v a j steps k p ns, lemmas.held n d std P t u q z b E Es e es h w gs i v a j steps k p ns)
