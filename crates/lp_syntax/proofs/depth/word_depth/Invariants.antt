use Rattle.std.proofs.Common.{◌≡◌, ℕ, List, length}
use Rattle.lp_base.specs.declared.place.Spot.{Spot}
use Rattle.lp_syntax.specs.declared.text.RawTypeNode.{RawTypeNode}
use Rattle.lp_syntax.specs.Types.{TypeTree}
use Rattle.lp_syntax.specs.RawTypes.{OnNodes, AreBelow, ShowsType}
use Rattle.lp_syntax.specs.Depth.{type_depth, counted, AreTypeDepths}
use Rattle.lp_syntax.proofs.depth.word_depth.Given as goal

abbrev pub invariant-loop-argument : goal.invariant-loop-argument
invariant-loop-argument l = (spot : ℕ → Spot) (nodes : List RawTypeNode) (w : ℕ) (t : TypeTree) → AreTypeDepths nodes l.depths → AreBelow (length l.depths) l.yielded → ShowsType spot nodes (OnNodes w l.yielded) t → l.depth ≡ counted (type_depth t)
