use Rattle.std.proofs.Common.{◌≡◌, ◌+◌, map, length}
use Rattle.std.specs.Prelude.{◌-◌, ◌^◌, min}
use Rattle.lp_verify.specs.inner.Indices.{lowered_by, merge}
use Rattle.lp_verify.proofs.MergeSteps.{behind}
use Rattle.lp_verify.proofs.loose.merged.Given as goal

abbrev pub decreases-loop-steps : goal.decreases-loop-steps
decreases-loop-steps l = l.steps

abbrev pub invariant-loop-steps : goal.invariant-loop-steps
invariant-loop-steps l =
    behind l.merged.items (merge l.steps (map (lowered_by l.fn.left_by) l.on_left) (map (lowered_by l.fn.right_by) l.on_right))
    ≡ merge (min (length l.fn.left + length l.fn.right) (2 ^ 64 - 1)) (map (lowered_by l.fn.left_by) l.fn.left) (map (lowered_by l.fn.right_by) l.fn.right)
