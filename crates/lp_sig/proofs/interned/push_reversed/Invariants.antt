use Rattle.std.proofs.Common.{◌≡◌, ◌++◌}
use Rattle.lp_sig.proofs.interned.push_reversed.Given as goal

abbrev pub invariant-loop-id : goal.invariant-loop-id
invariant-loop-id l = l.work.items ≡ l.fn.work.items ++ l.yielded
