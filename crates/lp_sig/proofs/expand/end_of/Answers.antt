use Rattle.std.proofs.Common.{◌<◌, take_all, subst}
use Rattle.std.specs.Prelude.{All}
use Rattle.lp_sig.proofs.Renaming.{above_more}
use Rattle.lp_sig.proofs.expand.end_of.Goals as goal

pub loop-at-preserved : goal.loop-at-preserved
loop-at-preserved c = above_more c.args.numbers.now c.loop-at.at _ c.loop-at.end c.in_ok-next.next _ c.loop-at-test.true c.in_ok-next.ensures c.larger-end.ensures.first c.larger-end.ensures.second c.loop-at.invariant

pub returns : goal.returns
returns c = subst (All (λ n. n < c.loop-at.end)) (take_all c.loop-at.at c.args.numbers.now c.loop-at-test.false) c.loop-at.invariant
