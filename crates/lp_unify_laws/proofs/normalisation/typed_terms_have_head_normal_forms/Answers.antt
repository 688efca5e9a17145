use Rattle.lp_calculus.specs.Convert.{head_step}
use Rattle.lp_unify_laws.proofs.NormalForms.Ends.{ends_after}
use Rattle.lp_unify_laws.proofs.NormalForms.Computable.{typed_ends}
use Rattle.lp_unify_laws.proofs.NormalForms.Headed.{head_ends}
use Rattle.lp_unify_laws.proofs.normalisation.typed_terms_have_head_normal_forms.Goals as goal

pub returns : goal.returns
returns c = λ τ C t T h. ends_after head_step (head_ends (typed_ends τ C t T h))
