use Rattle.std.proofs.Common.{ap, sym}
use Rattle.lp_plain.specs.Moving.{turn_for}
use Rattle.lp_plain.proofs.outcome.turn_of.Goals as goal

pub returns-in-Fits : goal.returns-in-Fits
returns-in-Fits c = sym (ap turn_for c.in-Fits.is)

pub returns-in-Fails : goal.returns-in-Fails
returns-in-Fails c = sym (ap turn_for c.in-Fails.is)

pub returns-in-Deep : goal.returns-in-Deep
returns-in-Deep c = sym (ap turn_for c.in-Deep.is)
