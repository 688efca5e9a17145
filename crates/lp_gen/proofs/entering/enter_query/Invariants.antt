use Rattle.std.proofs.Common.{◌≡◌}
use Rattle.lp_gen.specs.inner.Entering.{QueryEntered}
use Rattle.lp_gen.proofs.entering.enter_query.Given as goal

abbrev pub invariant-loop-of : goal.invariant-loop-of
invariant-loop-of l = QueryEntered l.fn.emitter l.emitter l.fn.environment l.environment l.yielded × (l.emitter.place ≡ l.fn.emitter.place)
