use Rattle.std.proofs.Common.{refl}
use Rattle.lp_plain.proofs.Opening.{bank_grows}
use Rattle.lp_plain.proofs.Opening.{bank_stands}
use Rattle.lp_plain.proofs.parts.applied.Goals as goal

pub returns-clause-grows : goal.returns-clause-grows
returns-clause-grows c = bank_grows c.args.machine.now _ c.in_ok-goal.ensures.kept refl refl refl

pub returns-clause-stands : goal.returns-clause-stands
returns-clause-stands c = bank_stands c.args.machine.now _ c.in_ok-goal.ensures.kept refl refl refl

pub returns-clause-within : goal.returns-clause-within
returns-clause-within c = c.in_ok-goal.ensures.within
