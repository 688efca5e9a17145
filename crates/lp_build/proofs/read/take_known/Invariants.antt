use Rattle.std.proofs.Common.{◌≡◌}
use Rattle.lp_build.proofs.read.take_known.Given as goal

abbrev pub invariant-loop-at : goal.invariant-loop-at
invariant-loop-at l = l.known.items ≡ l.fn.known.items
