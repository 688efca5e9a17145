use Rattle.std.proofs.Common.{reverse}
use Rattle.lp_infer.specs.Visits.{Looked}
use Rattle.lp_infer.specs.inner.Turns.{turns}
use Rattle.lp_infer.proofs.lookup.looked_up.Given as goal

abbrev pub invariant-loop-task : goal.invariant-loop-task
invariant-loop-task l = Looked l.signature l.source l.raw.nodes.items l.raw.root l.lookup (reverse l.work.items)

abbrev pub decreases-loop-task : goal.decreases-loop-task
decreases-loop-task l = turns (reverse l.work.items)
