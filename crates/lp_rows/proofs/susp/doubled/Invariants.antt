use Rattle.std.proofs.Common.{◌<◌, length}
use Rattle.lp_rows.proofs.susp.doubled.Given as goal

abbrev pub invariant-doublings : goal.invariant-doublings
invariant-doublings l = l.term.0 < length l.store.cells
