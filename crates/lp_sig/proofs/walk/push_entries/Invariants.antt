use Rattle.std.proofs.Common.{◌≡◌, ◌++◌}
use Rattle.lp_sig.specs.Walking.{entries}
use Rattle.lp_sig.proofs.walk.push_entries.Given as goal

abbrev pub invariant-loop-word : goal.invariant-loop-word
invariant-loop-word l = l.work.items ≡ l.fn.work.items ++ entries l.yielded
