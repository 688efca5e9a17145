use Rattle.lp_lemmas.proofs.Elements.{All_pushed}
use Rattle.lp_unify.specs.Inside.{IsApart}
use Rattle.lp_unify.proofs.Frames.{stays_then}
use Rattle.lp_unify.proofs.Apart.{all_apart_stays, variable_stays}
use Rattle.lp_unify.proofs.settle.put_stand_ins.Goals as goal

pub put_stand_in-requires : goal.put_stand_in-requires
put_stand_in-requires c = variable_stays c.args.store.now c.loop-place.store c.args.side.now.variable.0 c.loop-place.invariant.stays c.requires

pub loop-place-preserved : goal.loop-place-preserved
loop-place-preserved c =
    let o = c.args.store.now in
    let s = c.loop-place.store in
    let z = c.put_stand_in.new.store in
    let x = c.args.side.now.variable.0 in
    let k = c.in_ok-id.ensures.stays in
    record {
      stays = stays_then o s z c.loop-place.invariant.stays k;
      apart = All_pushed (IsApart z x) c.push.new.self.items c.loop-place.ids.items c.in_ok-id.id c.in_ok-push.ensures.items (all_apart_stays s z x c.loop-place.ids.items k (variable_stays o s x c.loop-place.invariant.stays c.requires) c.loop-place.invariant.apart) c.in_ok-id.ensures.apart;
    }
