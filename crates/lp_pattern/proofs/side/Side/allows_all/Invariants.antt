use Rattle.std.proofs.Common.{◌≡◌, drop}
use Rattle.lp_model.specs.Scan.{allow}
use Rattle.lp_pattern.specs.Reading.{side_of}
use Rattle.lp_pattern.proofs.side.Side.allows_all.Given as goal

abbrev pub invariant-loop-place : goal.invariant-loop-place
invariant-loop-place l = allow (side_of l.self) l.eigens ≡ allow (side_of l.self) (drop l.place l.eigens)
