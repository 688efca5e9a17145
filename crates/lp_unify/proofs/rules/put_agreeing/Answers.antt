use Rattle.lp_lemmas.proofs.Elements.{All_pushed}
use Rattle.lp_unify.specs.Inside.{IsApart}
use Rattle.lp_unify.proofs.Frames.{stays_then}
use Rattle.lp_unify.proofs.Apart.{all_apart_stays, variable_stays}
use Rattle.lp_unify.proofs.rules.put_agreeing.Goals as goal

pub loop-place-preserved : goal.loop-place-preserved
loop-place-preserved c =
    let o = c.args.store.now in
    let s = c.loop-place.store in
    let z = c.put_index.new.store in
    let k = c.in_ok-id.ensures.stays in
    record {
      stays = stays_then o s z c.loop-place.invariant.stays k;
      apart = λ x h.
          All_pushed (IsApart z x) c.push.new.self.items c.loop-place.arguments.items c.in_ok-id.id c.in_ok-push.ensures.items
          (all_apart_stays s z x c.loop-place.arguments.items k (variable_stays o s x c.loop-place.invariant.stays h) (c.loop-place.invariant.apart x h))
          (c.in_ok-id.ensures.fresh x (variable_stays o s x c.loop-place.invariant.stays h));
    }
