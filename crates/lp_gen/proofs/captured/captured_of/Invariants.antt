use Rattle.std.specs.Prelude.{nat_eq}
use Rattle.std.specs.List.{IsDistinct}
use Rattle.lp_gen.specs.inner.Capturing.{IsLookedThrough, place_work}
use Rattle.lp_gen.proofs.captured.captured_of.Given as goal

abbrev pub decreases-places : goal.decreases-places
decreases-places l = place_work l.bank l.work.items

abbrev pub invariant-places : goal.invariant-places
invariant-places l = IsLookedThrough l.bank l.clauses l.base l.levels.keys l.work.items × IsDistinct nat_eq l.levels.keys
