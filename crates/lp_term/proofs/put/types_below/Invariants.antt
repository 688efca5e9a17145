use Rattle.std.proofs.Common.{◌≡◌, ◌<◌, length, take}
use Rattle.lp_calculus.specs.Types.{var}
use Rattle.lp_term.specs.Nodes.{Nodes, Extends, type_tree}
use Rattle.lp_term.specs.Within.{AreTypesInPlaceOf}
use Rattle.lp_term.proofs.put.types_below.Given as goal

abbrev pub invariant-loop-id : goal.invariant-loop-id
invariant-loop-id l = (b c : Nodes) → Extends b c → l.count ≡ length b.types → l.other.0 < length c.types → type_tree c l.other.0 ≡ var 0 → AreTypesInPlaceOf b c (take l.id-index l.ids) l.made.items
