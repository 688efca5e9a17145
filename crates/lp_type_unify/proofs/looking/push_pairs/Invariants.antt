use Rattle.std.proofs.Common.{◌≡◌, ◌++◌, ◌-◌, reverse, drop, length}
use Rattle.lp_type_unify.specs.Looking.{zipped}
use Rattle.lp_type_unify.proofs.looking.push_pairs.Given as goal

abbrev pub invariant-loop-done : goal.invariant-loop-done
invariant-loop-done l = l.todo.items ≡ l.initial.todo.items ++ reverse (zipped (drop (length l.lefts - l.done) l.lefts) (drop (length l.lefts - l.done) l.rights))
