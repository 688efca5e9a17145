use Rattle.std.proofs.Common.{◌<◌, length}
use Rattle.lp_susp.specs.Route.{RefsTo}
use Rattle.lp_goal.proofs.spine.referred.Given as goal

abbrev pub invariant-references : goal.invariant-references
invariant-references l = record {
  within : l.at.0 < length l.store.cells;
  refers : RefsTo l.store l.fn.cell.0 l.at.0;
}
