use Rattle.std.proofs.Common.{◌≤◌, Some}
use Rattle.lp_calculus.specs.Types.{Ty}
use Rattle.lp_verify.specs.inner.FirstNumbers.{IsType, IsLeftAt}
use Rattle.lp_verify.proofs.head.HeadSoFar.left_at.Given as goal

abbrev pub invariant-loop : goal.invariant-loop
invariant-loop l = (l.counter ≤ l.fn.number) × ((T : Ty) → IsType l.fn.types l.fn.self.whole T → IsLeftAt l.fn.types T l.counter (Some l.rest))
