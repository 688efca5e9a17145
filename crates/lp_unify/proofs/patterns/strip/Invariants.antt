use Rattle.lp_unify.specs.Frames.{Stays}
use Rattle.lp_unify.proofs.patterns.strip.Given as goal

abbrev pub invariant-loop-count : goal.invariant-loop-count
invariant-loop-count l = Stays l.fn.store l.store
