use Rattle.std.proofs.Common.{◌≡◌, ◌<◌, length}
use Rattle.lp_calculus.specs.Types.{var}
use Rattle.lp_term.specs.Nodes.{Nodes, Extends, type_tree}
use Rattle.lp_pattern.specs.Inside.{AreTypePairsInPlaceOf}
use Rattle.lp_pattern.proofs.inside.type_pairs_below.Given as goal

abbrev pub invariant-loop-pair : goal.invariant-loop-pair
invariant-loop-pair l = (b d : Nodes) → Extends b d → l.count ≡ length b.types → l.other.0 < length d.types → type_tree d l.other.0 ≡ var 0 → AreTypePairsInPlaceOf b d l.yielded l.made.items
