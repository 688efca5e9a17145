use Rattle.lp_unify_laws.proofs.NormalForms.Typed.{typed_weighs}
use Rattle.lp_unify_laws.proofs.Termination.Comparisons.{compare_comes}
use Rattle.lp_unify_laws.proofs.outcomes.typed_terms_are_compared.Goals as goal

pub returns : goal.returns
returns c = λ τ ι C D t u T U h g k. let w = typed_weighs τ C t T h in let v = typed_weighs ι D u U g in compare_comes k t u w.0 v.0 w.1 v.1
