use Rattle.std.proofs.Common.{arith}
use Rattle.lp_module.proofs.Counting.{is_many}
use Rattle.lp_module.proofs.sentences.has_many_arguments.Goals as goal

pub returns-then-count-clause-many : goal.returns-then-count-clause-many
returns-then-count-clause-many c = λ e.
    is_many c.loop-at.counts.items c.args.raw.now c.loop-at.at c.index.result.now c.own_count-count.result (omega (arith, c.loop-at-test.true, c.len-at-end.ensures, c.args.raw.now.nodes.ok)) c.index.ensures c.own_count-count.ensures c.if-count.true c.loop-at.invariant.0
