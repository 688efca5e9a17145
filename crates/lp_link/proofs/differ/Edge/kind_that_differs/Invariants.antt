use Rattle.std.proofs.Common.{ℕ, ◌<◌}
use Rattle.lp_link.specs.Differences.{IsOtherKind}
use Rattle.lp_link.proofs.differ.Edge.kind_that_differs.Given as goal

abbrev pub invariant-loop-at : goal.invariant-loop-at
invariant-loop-at l = (j : ℕ) → j < l.at → IsOtherKind l.self.below.now.object.now l.self.above.now.object.now j → ⊥
