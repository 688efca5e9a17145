use Rattle.std.proofs.Common.{◌≡◌, ◌<◌, length, take}
use Rattle.lp_calculus.specs.Term.{index}
use Rattle.lp_term.specs.Nodes.{Nodes, Extends, tree}
use Rattle.lp_term.specs.Within.{AreInPlaceOf}
use Rattle.lp_term.proofs.put.terms_below.Given as goal

abbrev pub invariant-loop-id : goal.invariant-loop-id
invariant-loop-id l = (b c : Nodes) → Extends b c → l.count ≡ length b.terms → l.other.0 < length c.terms → tree c l.other.0 ≡ index 0 → AreInPlaceOf b c (take l.id-index l.ids) l.made.items
