use Rattle.std.proofs.Common.{arith}
use Rattle.lp_sig.proofs.Renaming.{place_later, place_here, place_none}
use Rattle.lp_sig.proofs.expand.place_among.Goals as goal

pub loop-at-init : goal.loop-at-init
loop-at-init c = omega arith

pub loop-at-preserved : goal.loop-at-preserved
loop-at-preserved c = place_later c.args.numbers.now c.args.number c.loop-at.at c.loop-at-test.true c.if-numbers-at.false c.loop-at.invariant

pub returns : goal.returns
returns c = place_none c.args.numbers.now c.args.number c.loop-at.at c.loop-at-test.false c.loop-at.auto.at-end c.loop-at.invariant

pub returns-then-numbers-at : goal.returns-then-numbers-at
returns-then-numbers-at c = place_here c.args.numbers.now c.args.number c.loop-at.at c.loop-at-test.true c.if-numbers-at.true c.loop-at.invariant
