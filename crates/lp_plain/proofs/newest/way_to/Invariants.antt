use Rattle.std.proofs.Common.{reverse}
use Rattle.lp_plain.specs.Newest.{Comes}
use Rattle.lp_plain.specs.Scopes.{blocks_to}
use Rattle.lp_plain.proofs.newest.way_to.Given as goal

abbrev pub invariant-nodes : goal.invariant-nodes
invariant-nodes l = Comes l.nodes.items l.head l.fn.tree (reverse l.steps.items) l.at l.bits

abbrev pub decreases-nodes : goal.decreases-nodes
decreases-nodes l = blocks_to l.at
