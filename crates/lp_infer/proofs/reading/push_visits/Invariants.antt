use Rattle.std.proofs.Common.{◌≡◌, ◌++◌, map}
use Rattle.lp_infer.specs.declared.reading.Task.TheVariants as task
use Rattle.lp_infer.proofs.reading.push_visits.Given as goal

abbrev pub invariant-loop-id : goal.invariant-loop-id
invariant-loop-id l = l.work.items ≡ l.initial.work.items ++ map task.Visit l.yielded
