use Rattle.lp_gen.specs.Registers.{own_types_take}
use Rattle.lp_gen.specs.inner.Using.{Uses}
use Rattle.lp_gen.specs.inner.Entering.{TypesMade}
use Rattle.lp_gen.proofs.entering.make_types.Given as goal

abbrev pub invariant-loop : goal.invariant-loop
invariant-loop l = TypesMade l.fn.emitter l.emitter l.counter × Uses l.fn.emitter l.emitter (own_types_take l.counter)
