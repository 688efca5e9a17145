use Rattle.std.proofs.Common.{◌<◌, length}
use Rattle.lp_rows.proofs.susp_timed.tower.Given as goal

abbrev pub invariant-levels : goal.invariant-levels
invariant-levels l = l.term.0 < length l.store.cells
