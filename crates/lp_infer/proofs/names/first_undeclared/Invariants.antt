use Rattle.std.proofs.Common.{reverse}
use Rattle.lp_infer.specs.Scanning.{Scanned}
use Rattle.lp_infer.specs.inner.Rooms.{turns}
use Rattle.lp_infer.proofs.names.first_undeclared.Given as goal

abbrev pub invariant-loop-task : goal.invariant-loop-task
invariant-loop-task l = Scanned l.signature l.source l.raw.nodes.items l.raw.root l.names (reverse l.work.items)

abbrev pub decreases-loop-task : goal.decreases-loop-task
decreases-loop-task l = turns (reverse l.work.items)
