use Rattle.std.proofs.Common.{arith}
use Rattle.lp_module.proofs.Reaching.{back_found, back_not, back_none}
use Rattle.lp_module.proofs.circles.first_back.Goals as goal

pub returns-then-index : goal.returns-then-index
returns-then-index c = λ ways all.
    back_found ways c.args.home c.args.out.now.items c.loop-at.at c.index-way.result.now c.args.reached.now.items c.index-row.result.now c.index.result.now
    (omega (arith, c.loop-at-test.true, c.len-at-end.ensures, c.args.out.now.ok)) c.index-way.ensures c.requires.places c.index-row.ensures c.requires.home c.requires.square c.index.ensures c.if-index.true (c.loop-at.invariant ways all) all

pub loop-at-preserved : goal.loop-at-preserved
loop-at-preserved c = λ ways all.
    back_not ways c.args.home c.args.out.now.items c.loop-at.at c.index-way.result.now c.args.reached.now.items c.index-row.result.now c.index.result.now
    (omega (arith, c.loop-at-test.true, c.len-at-end.ensures, c.args.out.now.ok)) c.index-way.ensures c.requires.places c.index-row.ensures c.requires.home c.requires.square c.index.ensures c.if-index.false (c.loop-at.invariant ways all) all

pub returns : goal.returns
returns c = λ ways all. back_none ways c.args.home c.args.out.now.items c.loop-at.at (omega (arith, c.loop-at-test.false, c.len-at-end.ensures, c.args.out.now.ok)) (c.loop-at.invariant ways all)
