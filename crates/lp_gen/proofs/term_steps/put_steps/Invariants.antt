use Rattle.std.proofs.Common.{◌≡◌, length, map}
use Rattle.lp_gen.specs.Registers.{steps_take}
use Rattle.lp_gen.specs.inner.Listing.{plain_step}
use Rattle.lp_gen.specs.inner.Stacked.{stack_all}
use Rattle.lp_gen.specs.inner.TermSteps.{StepsPut}
use Rattle.lp_gen.specs.inner.Using.{Uses}
use Rattle.lp_gen.proofs.term_steps.put_steps.Given as goal

abbrev pub invariant-loop-step : goal.invariant-loop-step
invariant-loop-step l =
    StepsPut l.bank l.fn.emitter l.emitter l.yielded l.made.items × (length l.made.items ≡ stack_all 0 (map (plain_step l.bank) l.yielded))
    × Uses l.fn.emitter l.emitter (steps_take (map (plain_step l.bank) l.yielded))
