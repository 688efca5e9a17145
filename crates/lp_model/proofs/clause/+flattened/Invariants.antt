use Rattle.std.proofs.Common.{◌≤◌}
use Rattle.lp_model.proofs.clause.Goal.TheLaws.{the_size}
use Rattle.lp_model.proofs.clause.+flattened.Given as goal

abbrev pub invariant-Goal::drop-loop-self : goal.invariant-Goal::drop-loop-self
invariant-Goal::drop-loop-self l = the_size l.self ≤ the_size l.fn.self
