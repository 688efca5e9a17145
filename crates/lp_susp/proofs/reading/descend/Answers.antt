use Rattle.std.proofs.Common.{refl, sym, arith}
use Rattle.lp_susp.proofs.Keeping.{grows_same}
use Rattle.lp_susp.proofs.Plugs.{plug_bank, all_stand_more}
use Rattle.lp_susp.proofs.Sizes.{full, down_abs_counted, down_app_counted, down_leaf_counted}
use Rattle.lp_susp.proofs.Readbacks.{down_abs, down_app}
use Rattle.lp_susp.proofs.reading.descend.Goals as goal

pub returns-in_ok-push-in-Abs-clause-state : goal.returns-in_ok-push-in-Abs-clause-state
returns-in_ok-push-in-Abs-clause-state c =
    down_abs c.args.store.now c.args.bank.now c.args.exposed.0 c.in-Abs.body c.args.frames.now.items c.push.new.self.items (sym c.in-Abs.ensures.cell) c.in_ok-push-in-Abs.ensures.items

pub returns-in_ok-push-in-App-clause-state : goal.returns-in_ok-push-in-App-clause-state
returns-in_ok-push-in-App-clause-state c =
    down_app c.args.store.now c.args.bank.now c.args.exposed.0 c.in-App.head c.in-App.arguments c.args.frames.now.items c.push-in-App.new.self.items (sym c.in-App.ensures.cell) c.in-App.ensures.stands.1 c.in-App.ensures.stands.2 c.in_ok-push-in-App.ensures.items

pub returns-in_ok-id-in_default : goal.returns-in_ok-id-in_default
returns-in_ok-id-in_default c =
    let s = c.args.store.now in
    let b = c.args.bank.now in
    let d = c.put_leaf.new.bank in
    let e = c.in_ok-id-in_default.ensures in
    record {
      kept = e.kept;
      frames = all_stand_more s s b d (grows_same s) e.kept c.args.frames.now.items c.requires.frames;
      stands = e.within;
      counted = down_leaf_counted s b d c.args.frames.now.items c.in_ok-id-in_default.id c.args.room.now.limit c.args.room.now.left e.kept c.requires.frames e.one c.requires.counted (omega (arith, c.if-room-eq0-2.false));
      refused = tt;
      limit = refl;
      state = λ x w r h p. (let k = e.tree x r in (x, (sym k.0, k.1), plug_bank s b d e.kept c.args.frames.now.items c.requires.frames x w p));
    }

pub returns-then-room-eq0-clause-refused : goal.returns-then-room-eq0-clause-refused
returns-then-room-eq0-clause-refused c = λ x w p. full c.args.store.now c.args.bank.now c.args.frames.now.items c.args.room.now.limit c.args.room.now.left c.requires.counted (omega (arith, c.if-room-eq0.true)) x w p

pub returns-then-room-eq0-2-clause-refused : goal.returns-then-room-eq0-2-clause-refused
returns-then-room-eq0-2-clause-refused c = λ x w p. full c.args.store.now c.args.bank.now c.args.frames.now.items c.args.room.now.limit c.args.room.now.left c.requires.counted (omega (arith, c.if-room-eq0-2.true)) x w p

pub returns-in_ok-push-in-Abs-clause-counted : goal.returns-in_ok-push-in-Abs-clause-counted
returns-in_ok-push-in-Abs-clause-counted c =
    down_abs_counted c.args.bank.now c.args.frames.now.items c.push.new.self.items c.args.room.now.limit c.args.room.now.left c.in_ok-push-in-Abs.ensures.items c.requires.counted (omega (arith, c.if-room-eq0.false))

pub returns-in_ok-push-in-App-clause-counted : goal.returns-in_ok-push-in-App-clause-counted
returns-in_ok-push-in-App-clause-counted c =
    down_app_counted c.args.bank.now c.args.frames.now.items c.push-in-App.new.self.items c.in-App.arguments c.args.room.now.limit c.args.room.now.left c.in_ok-push-in-App.ensures.items c.requires.counted
