use Rattle.std.proofs.Common.{◌≡◌, replicate, false}
use Rattle.lp_module.proofs.circles.no_marks.Given as goal

abbrev pub invariant-loop-at : goal.invariant-loop-at
invariant-loop-at l = l.marks.items ≡ replicate l.at false
