use Rattle.std.proofs.Common.{◌≡◌, ◌≤◌, length, map, drop}
use Rattle.lp_term.specs.Nodes.{Nodes, Extends}
use Rattle.lp_object.specs.Reading.{types_made}
use Rattle.lp_object.specs.inner.Parts.{type_top_of, types_stacked}
use Rattle.lp_object.proofs.schemes.put_parts.Given as goal

abbrev pub invariant-loop-left : goal.invariant-loop-left
invariant-loop-left l = (l.left ≤ length l.parts) × Extends l.fn.bank l.bank × ((b : Nodes) → Extends l.bank b → types_stacked b l.stack.items ≡ types_made (map type_top_of (drop l.left l.parts)))

abbrev pub decreases-loop-left : goal.decreases-loop-left
decreases-loop-left l = l.left
