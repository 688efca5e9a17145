use Rattle.std.proofs.Common.{◌<◌, ◌≤◌, length}
use Rattle.lp_rows.proofs.susp_timed.numeral.Given as goal

abbrev pub invariant-uses : goal.invariant-uses
invariant-uses l = record {
  more : length l.fn.store.cells ≤ length l.store.cells;
  f : l.f.0 < length l.store.cells;
  body : l.body.0 < length l.store.cells;
}
