use Rattle.lp_unify_laws.proofs.NormalForms.Typed.{typed_weighs}
use Rattle.lp_unify_laws.proofs.Termination.Looks.{look_comes}
use Rattle.lp_unify_laws.proofs.outcomes.looks_at_typed_terms_come.Goals as goal

pub returns : goal.returns
returns c = λ τ C t T h. let r = look_comes (typed_weighs τ C t T h).1 in (r.steps, r.view, r.is)
