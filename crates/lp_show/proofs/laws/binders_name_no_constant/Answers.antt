use Rattle.lp_show.proofs.BinderNames as lemmas
use Rattle.lp_show.proofs.laws.binders_name_no_constant.Goals as goal

pub returns : goal.returns
returns c = λ es d l. lemmas.no_constant es d l
