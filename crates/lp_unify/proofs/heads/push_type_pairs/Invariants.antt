use Rattle.std.proofs.Common.{◌≡◌, ◌++◌, ◌-◌, reverse, drop, length}
use Rattle.lp_unify.specs.Heads.{zipped_cells}
use Rattle.lp_unify.proofs.heads.push_type_pairs.Given as goal

abbrev pub invariant-loop-done : goal.invariant-loop-done
invariant-loop-done l = reverse l.todo.items ≡ zipped_cells (drop (length l.lefts - l.done) l.lefts) (drop (length l.lefts - l.done) l.rights) ++ reverse l.initial.todo.items
