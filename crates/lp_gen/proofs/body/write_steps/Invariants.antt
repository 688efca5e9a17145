use Rattle.lp_gen.specs.Steps.{constant_function}
use Rattle.lp_gen.specs.inner.Listing.{around_of}
use Rattle.lp_gen.specs.inner.TermLaw.{AreSet}
use Rattle.lp_gen.specs.inner.BodyCode.{AllStartsGrow}
use Rattle.lp_gen.specs.inner.BodyUsing.{HasUsed}
use Rattle.lp_gen.proofs.BodyFacts.{SoFar}
use Rattle.lp_gen.proofs.body.write_steps.Given as goal

abbrev pub invariant-loop-step : goal.invariant-loop-step
invariant-loop-step l =
    SoFar l.tables (constant_function l.tables.bank.now l.tables.constants.now) l.fn.emitter l.emitter l.fn.environment l.environment l.blocks.items l.fn.starts.items l.starts.items l.yielded
    × AllStartsGrow l.tables l.fn.starts.items l.starts.items l.yielded
    × (AreSet (around_of l.tables.bank.now l.fn.environment) → HasUsed l.tables.bank.now l.tables.type_vars l.tables.assumptions.now (constant_function l.tables.bank.now l.tables.constants.now)
    l.fn.emitter l.emitter (around_of l.tables.bank.now l.fn.environment) l.environment l.blocks.items l.yielded)
