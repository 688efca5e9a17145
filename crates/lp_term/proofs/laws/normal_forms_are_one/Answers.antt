use Rattle.lp_term.proofs.EtaForms.{forms_are_one}
use Rattle.lp_term.proofs.laws.normal_forms_are_one.Goals as goal

pub returns : goal.returns
returns c = λ t s r f g. forms_are_one t s r f g
