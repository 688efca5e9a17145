use Rattle.lp_gen.specs.inner.Listing.{around_of}
use Rattle.lp_gen.specs.inner.Beginning.{PlacesMade}
use Rattle.lp_gen.specs.inner.Using.{UsesUnset}
use Rattle.lp_gen.proofs.variables.make_variables.Given as goal

abbrev pub invariant-loop-at : goal.invariant-loop-at
invariant-loop-at l =
    PlacesMade l.fn.emitter l.emitter (around_of l.bank l.fn.environment) (around_of l.bank l.environment) l.is_clause l.count l.at
    × UsesUnset l.fn.emitter l.emitter (around_of l.bank l.fn.environment) (around_of l.bank l.environment)
