use Rattle.std.proofs.Common.{◌≡◌, ◌++◌, ◌-◌, reverse, drop, length}
use Rattle.lp_pattern.specs.Scanning.{visits}
use Rattle.lp_pattern.proofs.scan.push_arguments.Given as goal

abbrev pub invariant-loop-done : goal.invariant-loop-done
invariant-loop-done l = l.left.items ≡ l.initial.left.items ++ reverse (visits l.visit l.is_inside (drop (length l.arguments - l.done) l.arguments))
