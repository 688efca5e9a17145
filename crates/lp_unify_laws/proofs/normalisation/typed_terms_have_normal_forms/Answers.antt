use Rattle.lp_calculus.specs.Convert.{leftmost_step}
use Rattle.lp_unify_laws.proofs.NormalForms.Ends.{ends_after}
use Rattle.lp_unify_laws.proofs.NormalForms.Computable.{typed_ends}
use Rattle.lp_unify_laws.proofs.normalisation.typed_terms_have_normal_forms.Goals as goal

pub returns : goal.returns
returns c = λ τ C t T h. ends_after leftmost_step (typed_ends τ C t T h)
