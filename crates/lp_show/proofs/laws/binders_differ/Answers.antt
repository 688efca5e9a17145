use Rattle.lp_show.proofs.BinderNames as lemmas
use Rattle.lp_show.proofs.laws.binders_differ.Goals as goal

pub returns : goal.returns
returns c = λ es d e l. lemmas.differ es d e l
