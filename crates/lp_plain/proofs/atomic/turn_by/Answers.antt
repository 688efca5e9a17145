use Rattle.std.proofs.Common.{ap, sym}
use Rattle.lp_plain.specs.Assigned.{turn_if}
use Rattle.lp_plain.proofs.atomic.turn_by.Goals as goal

pub returns-then-holds : goal.returns-then-holds
returns-then-holds c = ap turn_if (sym c.if-holds.true)

pub returns : goal.returns
returns c = ap turn_if (sym c.if-holds.false)
