use Rattle.std.proofs.Common.{◌≡◌, ◌++◌}
use Rattle.lp_type_unify.proofs.looking.push_reversed.Given as goal

abbrev pub invariant-loop-id : goal.invariant-loop-id
invariant-loop-id l = l.stack.items ≡ l.initial.stack.items ++ l.yielded
