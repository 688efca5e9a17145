use Rattle.std.proofs.Common.{◌≡◌, ◌≤◌, ◌++◌, reverse, drop, length}
use Rattle.lp_susp.specs.TypeWork.{reads_of}
use Rattle.lp_susp.proofs.type_reading.put_reads.Given as goal

abbrev pub invariant-loop-left : goal.invariant-loop-left
invariant-loop-left l = record {
  within : l.left ≤ length l.cells;
  items : l.work.items ≡ l.initial.work.items ++ reverse (reads_of (drop l.left l.cells));
}

abbrev pub decreases-loop-left : goal.decreases-loop-left
decreases-loop-left l = l.left
