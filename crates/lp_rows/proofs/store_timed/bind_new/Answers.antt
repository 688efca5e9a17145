use Rattle.std.proofs.Common.{◌∙◌}
use Rattle.lp_store.proofs.Leaves.{eigen_apart, eigen_stays, pushed_is}
use Rattle.lp_store.specs.declared.cell.Cell.TheVariants.{Logic}
use Rattle.lp_rows.proofs.store_timed.bind_new.Goals as goal

pub bind-requires-clause-no_circle : goal.bind-requires-clause-no_circle
bind-requires-clause-no_circle c =
    eigen_apart c.push.new.self c.args.eigen.0 c.in_ok-variable.variable.0 5 0 (c.in_ok-variable.ensures.kept.cells c.args.eigen.0 c.requires.within ∙ c.requires.eigen)
    (pushed_is c.args.store.now c.push.new.self (Logic 0) c.in_ok-variable.variable.0 c.in_ok-variable.ensures.pushed c.in_ok-variable.ensures.id)
