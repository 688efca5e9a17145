use Rattle.std.proofs.Common.{◌≡◌, ◌<◌, length}
use Rattle.lp_store.specs.declared.cell.Cell.TheVariants.{Eigen}
use Rattle.lp_store.specs.Contents.{cell_at}
use Rattle.lp_store.specs.Change.{IsMark}
use Rattle.lp_rows.proofs.store_timed.binds_and_undoes.Given as goal

abbrev pub invariant-bindings : goal.invariant-bindings
invariant-bindings l = record {
  eigen : cell_at l.store l.eigen.0 ≡ Eigen 5;
  within : l.eigen.0 < length l.store.cells;
  mark : IsMark l.mark l.store;
}
