use Rattle.lp_unify_laws.proofs.UntypedRows as rows
use Rattle.lp_unify_laws.proofs.untyped.an_untyped_binding.Goals as goal

pub returns : goal.returns
returns c = (rows.swapped_binds, rows.swapped_solved)
