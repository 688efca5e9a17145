use Rattle.std.proofs.Common.{ℕ}
use Rattle.std.specs.Prelude.{Option}
use Rattle.lp_plain.specs.Newest.{code_of, Finds}
use Rattle.lp_plain.specs.Scopes.{blocks_to}
use Rattle.lp_plain.proofs.newest.newest_of.Given as goal

abbrev pub invariant-nodes : goal.invariant-nodes
invariant-nodes l = (found : Option ℕ) → Finds l.nodes.items l.head l.fn.tree (code_of l.head) found → Finds l.nodes.items l.head l.at l.bits found

abbrev pub decreases-nodes : goal.decreases-nodes
decreases-nodes l = blocks_to l.at
