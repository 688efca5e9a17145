use Rattle.lp_term.specs.Nodes.{Extends}
use Rattle.lp_lambda.specs.Pattern.{ArePatterns}
use Rattle.lp_lambda.specs.inner.Walking.{left, AreTasksIn, work}
use Rattle.lp_lambda.proofs.text.walk_on.Given as goal

abbrev pub invariant-tasks : goal.invariant-tasks
invariant-tasks l = record {
  kept : Extends l.fn.bank l.bank;
  tasks : AreTasksIn l.bank l.walk;
  forth : ArePatterns (left l.fn.bank l.fn.walk) → ArePatterns (left l.bank l.walk);
  back : ArePatterns (left l.bank l.walk) → ArePatterns (left l.fn.bank l.fn.walk);
}

abbrev pub decreases-tasks : goal.decreases-tasks
decreases-tasks l = work l.bank l.walk.work.items
