use Rattle.lp_unify_laws.proofs.NormalForms.Typed.{typed_weighs}
use Rattle.lp_unify_laws.proofs.Termination.Scans.{scan_comes}
use Rattle.lp_unify_laws.proofs.outcomes.typed_terms_are_scanned.Goals as goal

pub returns : goal.returns
returns c = λ τ C t T h s inside k. let w = typed_weighs τ C t T h in scan_comes s inside k t w.0 w.1
