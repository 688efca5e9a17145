use Rattle.lp_unify.specs.Frames.{Stays}
use Rattle.lp_unify.proofs.patterns.contracted.Given as goal

abbrev pub invariant-parts : goal.invariant-parts
invariant-parts l = Stays l.fn.store l.store
