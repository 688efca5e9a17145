use Rattle.std.proofs.Common.{take}
use Rattle.lp_sig.specs.Refusals.{AreStepsTaken, seen_before, constants_before}
use Rattle.lp_sig.specs.Said.{fixities_in, of_steps}
use Rattle.lp_sig.specs.Knowing.{KnowsOperators}
use Rattle.lp_sig.specs.Constants.{KnowsConstants}
use Rattle.lp_sig.specs.Declares.{AreAllTyped}
use Rattle.lp_sig.specs.Holding.{KnowsSeen}
use Rattle.lp_sig.proofs.texts.elaborate.Given as goal

abbrev pub invariant-loop-step : goal.invariant-loop-step
invariant-loop-step l = record {
  taken : AreStepsTaken l.names l.sources l.texts l.step-items l.step-index;
  seen : KnowsSeen l.making (seen_before l.names l.sources l.texts l.step-items l.step-index);
  constants : KnowsConstants l.making.bodies.types.bank l.making.constants (seen_before l.names l.sources l.texts l.step-items l.step-index).said (seen_before l.names l.sources l.texts l.step-items l.step-index).definitions (constants_before l.names l.sources l.texts l.step-items l.step-index);
  typed : AreAllTyped l.making (seen_before l.names l.sources l.texts l.step-items l.step-index) (constants_before l.names l.sources l.texts l.step-items l.step-index);
  operators : KnowsOperators l.making.operators (of_steps fixities_in l.sources l.texts (take l.step-index l.step-items));
}
