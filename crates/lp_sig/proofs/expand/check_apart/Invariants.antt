use Rattle.std.proofs.Common.{map, take}
use Rattle.lp_sig.specs.Pieces.{spelled}
use Rattle.lp_sig.specs.Places.{HasPlaces}
use Rattle.lp_sig.specs.Limits.{AreApart}
use Rattle.lp_sig.proofs.expand.check_apart.Given as goal

abbrev pub invariant-loop-i : goal.invariant-loop-i
invariant-loop-i l = record {
  known : HasPlaces l.places (map (λ w. spelled l.source w) (take l.i l.parameters));
  apart : AreApart l.source (take l.i l.parameters);
}
