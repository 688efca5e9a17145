use Rattle.lp_lemmas.proofs.Elements.{All_pushed}
use Rattle.lp_unify.specs.Inside.{IsApart}
use Rattle.lp_unify.proofs.Frames.{stays_then}
use Rattle.lp_unify.proofs.Apart.{all_apart_stays, variable_stays}
use Rattle.lp_unify.proofs.prune.push_low.Goals as goal

pub loop-k-preserved : goal.loop-k-preserved
loop-k-preserved c =
    let o = c.args.store.now in
    let s = c.loop-k.store in
    let z = c.put_eigen.new.store in
    let k = c.in_ok-id.ensures.stays in
    record {
      stays = stays_then o s z c.loop-k.invariant.stays k;
      apart = λ x h a.
          All_pushed (IsApart z x) c.push.new.self.items c.loop-k.arguments.items c.in_ok-id.id c.in_ok-push.ensures.items
          (all_apart_stays s z x c.loop-k.arguments.items k (variable_stays o s x c.loop-k.invariant.stays h) (c.loop-k.invariant.apart x h a))
          (c.in_ok-id.ensures.fresh x (variable_stays o s x c.loop-k.invariant.stays h));
    }
