use Rattle.std.proofs.Common.{◌≡◌, ◌++◌, ◌-◌, reverse, drop, length}
use Rattle.lp_pattern.specs.Settling.{visit_tasks}
use Rattle.lp_pattern.proofs.settle.push_visits.Given as goal

abbrev pub invariant-loop-done : goal.invariant-loop-done
invariant-loop-done l = l.tasks.items ≡ l.initial.tasks.items ++ reverse (visit_tasks l.opened (drop (length l.parts - l.done) l.parts))
