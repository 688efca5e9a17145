use Rattle.std.proofs.Common.{length, reverse}
use Rattle.lp_plain.specs.Newest.{IsBuilt}
use Rattle.lp_plain.proofs.newest.with_newest.Given as goal

abbrev pub invariant-steps : goal.invariant-steps
invariant-steps l = IsBuilt l.fn.nodes.items l.nodes.items l.fn.head l.fn.tree l.fn.number (reverse l.steps.items) l.below

abbrev pub decreases-steps : goal.decreases-steps
decreases-steps l = length l.steps.items
