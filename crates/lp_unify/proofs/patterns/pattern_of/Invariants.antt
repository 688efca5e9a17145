use Rattle.lp_unify.specs.Frames.{Stays}
use Rattle.lp_unify.proofs.patterns.pattern_of.Given as goal

abbrev pub invariant-loop-place : goal.invariant-loop-place
invariant-loop-place l = Stays l.fn.store l.store
