use Rattle.std.proofs.Common.{◌≡◌, length}
use Rattle.lp_syntax.specs.Depth.{AreTypeDepths}
use Rattle.lp_syntax.proofs.depth.type_depth.Given as goal

abbrev pub invariant-loop-node : goal.invariant-loop-node
invariant-loop-node l = record { as_many : length l.depths.items ≡ l.node-index; are : AreTypeDepths l.nodes l.depths.items }
