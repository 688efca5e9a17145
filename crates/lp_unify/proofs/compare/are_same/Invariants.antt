use Rattle.lp_unify.specs.Frames.{Stays}
use Rattle.lp_unify.proofs.compare.are_same.Given as goal

abbrev pub invariant-pairs : goal.invariant-pairs
invariant-pairs l = Stays l.fn.store l.store
