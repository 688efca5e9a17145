use Rattle.lp_unify_laws.proofs.NormalForms.Typed.{typed_weighs}
use Rattle.lp_unify_laws.proofs.Termination.Scans.{settle_comes}
use Rattle.lp_unify_laws.proofs.outcomes.typed_terms_are_settled.Goals as goal

pub returns : goal.returns
returns c = λ τ C t T h k. let w = typed_weighs τ C t T h in settle_comes k t w.0 w.1
