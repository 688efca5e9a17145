use Rattle.lp_unify_laws.proofs.NormalForms.Typed.{typed_weighs}
use Rattle.lp_unify_laws.proofs.Termination.Looks.{head_comes, normal_comes}
use Rattle.lp_unify_laws.proofs.outcomes.typed_terms_come_to_forms.Goals as goal

pub returns-clause-head_form : goal.returns-clause-head_form
returns-clause-head_form c = λ τ C t T h. let r = head_comes (typed_weighs τ C t T h).1 in (r.steps, r.form, r.is)

pub returns-clause-form : goal.returns-clause-form
returns-clause-form c = λ τ C t T h. normal_comes (typed_weighs τ C t T h).1
