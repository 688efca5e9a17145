use Rattle.std.proofs.Common.{rules, ◌+◌, ap, ◌∙◌}
use Rattle.lp_watch.specs.Crowd.{open_places}
use Rattle.lp_watch.proofs.Steps.{one_made, one_more_open}
use Rattle.lp_watch.proofs.crowd.make_places.Goals as goal

pub loop-preserved : goal.loop-preserved
loop-preserved c =
    let (n, is, at, count) = c.loop.invariant in (
      n + 1,
      c.in_ok-push.ensures.items ∙ one_made c.args.texts.now.items c.loop.texts.items n is,
      search rules,
      ap open_places c.in_ok-push.ensures.items ∙ one_more_open c.loop.texts.items c.loop.counter count,
    )
