use Rattle.std.proofs.Common.{rules, arith}
use Rattle.lp_watch.proofs.Steps.{passed_gone, passed_open}
use Rattle.lp_watch.proofs.crowd.count_open.Goals as goal

pub loop-text-preserved-then-is_some : goal.loop-text-preserved-then-is_some
loop-text-preserved-then-is_some c =
    let same = passed_gone c.args.texts.now c.loop-text.text-index c.text-item.result (search rules) c.text-item.is (search rules) in
    (grind (arith, same, c.loop-text.invariant.0), search rules)

pub loop-text-preserved : goal.loop-text-preserved
loop-text-preserved c =
    let more = passed_open c.args.texts.now c.loop-text.text-index c.text-item.result (search rules) c.text-item.is (search rules) in
    (grind (arith, more, c.loop-text.invariant.0), search rules)
