use Rattle.std.proofs.Common.{sym, subst as transport}
use Rattle.lp_plain.specs.Slots.{IsSlotted}
use Rattle.lp_plain.proofs.SlotValues.{value_at}
use Rattle.lp_plain.proofs.attempt.slot_value.Goals as goal

pub returns-in-Some-get-clause-value : goal.returns-in-Some-get-clause-value
returns-in-Some-get-clause-value c = λ next k e a.
    let b = c.args.bank.now in
    transport (λ s. IsSlotted b b c.args.args.now next c.args.level k s c.in-Some-get.arg.now) (sym c.in-Some.is)
    (value_at b c.args.args.now next c.args.level k c.in-Some.place c.in-Some-get.arg.now c.in-Some-get.ensures.lookup.1 c.in-Some-get.ensures.lookup.3.0 a)
