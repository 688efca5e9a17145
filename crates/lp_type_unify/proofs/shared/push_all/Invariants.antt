use Rattle.std.proofs.Common.{◌≡◌, ◌++◌, map}
use Rattle.lp_type_unify.specs.declared.shared.Task.{Task}
use Rattle.lp_type_unify.proofs.shared.push_all.Given as goal

abbrev pub invariant-loop-pair : goal.invariant-loop-pair
invariant-loop-pair l = l.todo.items ≡ l.initial.todo.items ++ map Task.Take l.yielded
