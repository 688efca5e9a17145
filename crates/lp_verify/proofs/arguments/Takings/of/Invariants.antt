use Rattle.std.proofs.Common.{◌≤◌, drop}
use Rattle.lp_verify.specs.inner.Taken.{before_neck, AreFirstTaken}
use Rattle.lp_verify.proofs.arguments.Takings.of.Given as goal

abbrev pub decreases-loop-number : goal.decreases-loop-number
decreases-loop-number l = l.number

abbrev pub invariant-loop-number : goal.invariant-loop-number
invariant-loop-number l = (l.number ≤ l.head) × AreFirstTaken l.number (drop l.number (before_neck l.fn.code)) l.takings.first
