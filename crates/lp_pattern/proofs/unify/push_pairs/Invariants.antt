use Rattle.std.proofs.Common.{◌≡◌, ◌++◌}
use Rattle.lp_pattern.proofs.unify.push_pairs.Given as goal

abbrev pub invariant-loop-pair : goal.invariant-loop-pair
invariant-loop-pair l = l.todo.items ≡ l.initial.todo.items ++ l.yielded
