use Rattle.std.proofs.Common.{length, reverse}
use Rattle.lp_plain.specs.HeadLooks.{OnlyBank}
use Rattle.lp_plain.specs.inner.Evaluating.{IsOnWay, Serves, toil}
use Rattle.lp_plain.proofs.arithmetic.evaluate.Given as goal

abbrev pub invariant-tasks : goal.invariant-tasks
invariant-tasks l = record {
  bank : OnlyBank l.fn.machine l.machine;
  way : IsOnWay l.fn.machine l.machine l.fn.term l.tasks.items l.values.items l.visited;
  served : Serves (reverse l.tasks.items) (length l.values.items);
}

abbrev pub decreases-tasks : goal.decreases-tasks
decreases-tasks l = toil l.visited l.tasks.items
