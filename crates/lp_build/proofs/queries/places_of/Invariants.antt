use Rattle.std.proofs.Common.{take}
use Rattle.lp_build.specs.inner.Placed.{HasGlobals}
use Rattle.lp_build.proofs.queries.places_of.Given as goal

abbrev pub invariant-loop-at : goal.invariant-loop-at
invariant-loop-at l = HasGlobals l.places (take l.at l.names)
