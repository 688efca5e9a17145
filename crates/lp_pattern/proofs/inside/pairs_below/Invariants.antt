use Rattle.std.proofs.Common.{◌≡◌, ◌<◌, length}
use Rattle.lp_calculus.specs.Term.{index}
use Rattle.lp_term.specs.Nodes.{Nodes, Extends, tree}
use Rattle.lp_pattern.specs.Inside.{ArePairsInPlaceOf}
use Rattle.lp_pattern.proofs.inside.pairs_below.Given as goal

abbrev pub invariant-loop-pair : goal.invariant-loop-pair
invariant-loop-pair l = (b d : Nodes) → Extends b d → l.count ≡ length b.terms → l.other.0 < length d.terms → tree d l.other.0 ≡ index 0 → ArePairsInPlaceOf b d l.yielded l.made.items
