use Rattle.std.proofs.Common.{◌≡◌}
use Rattle.lp_pattern.proofs.types.stacked.Given as goal

abbrev pub invariant-loop-pair : goal.invariant-loop-pair
invariant-loop-pair l = l.left.items ≡ l.yielded
