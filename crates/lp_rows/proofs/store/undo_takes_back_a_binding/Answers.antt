use Rattle.lp_store.proofs.Leaves.{eigen_apart}
use Rattle.lp_rows.proofs.store.undo_takes_back_a_binding.Goals as goal

pub bind-requires-clause-no_circle : goal.bind-requires-clause-no_circle
bind-requires-clause-no_circle g c = eigen_apart c.pair.new.store c.in-Ok.eigen.0 c.in-Ok.variable.0 5 0 c.in-Ok.ensures.eigen c.in-Ok.ensures.variable
