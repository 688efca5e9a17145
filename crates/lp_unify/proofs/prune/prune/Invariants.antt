use Rattle.lp_unify.specs.Frames.{Goes}
use Rattle.lp_unify.proofs.prune.prune.Given as goal

abbrev pub invariant-parts : goal.invariant-parts
invariant-parts l = Goes l.fn.store l.store
