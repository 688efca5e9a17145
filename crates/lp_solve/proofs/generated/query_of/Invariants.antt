use Rattle.std.proofs.Common.{◌≤◌}
use Rattle.lp_solve.proofs.generated.query_of.Given as goal

abbrev pub invariant-loop-passed : goal.invariant-loop-passed
invariant-loop-passed l = 1 ≤ l.bound
