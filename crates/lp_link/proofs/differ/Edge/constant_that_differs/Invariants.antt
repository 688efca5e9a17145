use Rattle.std.proofs.Common.{ℕ, ◌<◌}
use Rattle.lp_link.specs.Differences.{IsOtherConstant}
use Rattle.lp_link.proofs.differ.Edge.constant_that_differs.Given as goal

abbrev pub invariant-loop-at : goal.invariant-loop-at
invariant-loop-at l = (j : ℕ) → j < l.at → IsOtherConstant l.self.below.now.object.now l.self.above.now.object.now j → ⊥
