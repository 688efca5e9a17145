use Rattle.std.proofs.Common.{length, ap, is_ok, ◌∙◌, arith}
use Rattle.std.proofs.ResultArms.{chosen}
use Rattle.lp_lemmas.proofs.Lists.{length_push_suc}
use Rattle.lp_model.specs.Whole.{CanBeShown}
use Rattle.lp_query.proofs.Values.{value_more}
use Rattle.lp_query.proofs.running.values_at.Goals as goal

pub loop-at-preserved : goal.loop-at-preserved
loop-at-preserved c =
    let push = chosen _ _ _ _ c.push.ensures.items (ap is_ok c.in_ok-push.was) in
    let n = ap length push ∙ length_push_suc c.loop-at.chosen.items _ in
    let i = c.loop-at.invariant.0 in (
      omega (arith, n, i),
      λ b v. value_more (CanBeShown b) c.args.values.now c.args.places.now c.loop-at.at _ _ _ _ push c.loop-at-test.true c.requires v (c.loop-at.invariant.1 b v),
    )
