use Rattle.std.proofs.Common.{◌≡◌, drop}
use Rattle.lp_pattern.specs.Settling.{side_index}
use Rattle.lp_pattern.proofs.side.Side.abstraction_of.Given as goal

abbrev pub invariant-loop-place : goal.invariant-loop-place
invariant-loop-place l = side_index l.self.eigens.items l.eigen ≡ side_index (drop l.place l.self.eigens.items) l.eigen
