use Rattle.lp_term.proofs.EtaForms.{form_is}
use Rattle.lp_term.proofs.laws.eta_normal_is_a_form.Goals as goal

pub returns : goal.returns
returns c = λ n t r h. form_is n t r h
