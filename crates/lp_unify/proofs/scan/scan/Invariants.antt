use Rattle.lp_unify.specs.Frames.{Stays}
use Rattle.lp_unify.proofs.scan.scan.Given as goal

abbrev pub invariant-parts : goal.invariant-parts
invariant-parts l = Stays l.fn.store l.store
