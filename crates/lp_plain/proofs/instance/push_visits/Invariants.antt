use Rattle.std.proofs.Common.{◌≡◌, ◌++◌, ◌-◌, reverse, drop, length}
use Rattle.lp_plain.specs.Instances.{visits_at}
use Rattle.lp_plain.proofs.instance.push_visits.Given as goal

abbrev pub invariant-loop-done : goal.invariant-loop-done
invariant-loop-done l = l.tasks.items ≡ l.initial.tasks.items ++ reverse (visits_at l.depth (drop (length l.ids - l.done) l.ids))
