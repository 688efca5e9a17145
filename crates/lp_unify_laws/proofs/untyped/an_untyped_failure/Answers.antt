use Rattle.lp_unify_laws.proofs.UntypedRows as rows
use Rattle.lp_unify_laws.proofs.untyped.an_untyped_failure.Goals as goal

pub returns : goal.returns
returns c = (rows.occurs_fails, rows.occurs_solved)
