use Rattle.std.proofs.Common.{map, subst, sym, refl}
use Rattle.std.proofs.lemmas.Result.{on_ok_weaker}
use Rattle.lp_watch.specs.Crowd.{places}
use Rattle.lp_plain.proofs.Passing.{no_way_back}
use Rattle.lp_plain.specs.Hearing.{Hears, back_behind}
use Rattle.lp_plain.specs.Hearing.{HearsPart}
use Rattle.lp_plain.proofs.events.tell_turn.Goals as goal

pub returns-in-Back-clause-told : goal.returns-in-Back-clause-told
returns-in-Back-clause-told g c =
    let old = places c.args.crowd.now.texts.items (map g.W.Watch.seen c.args.crowd.now.watchers.now.items) in
    let new = places c.tell_back.new.crowd.texts.items (map g.W.Watch.seen c.tell_back.new.crowd.watchers.now.items) in
    on_ok_weaker c.tell_back.result (λ f cs. subst (λ t. Hears cs (back_behind t c.args.machine.now) old new) (sym c.in-Back.is) (f cs)) c.tell_back.ensures.told

pub returns-in_default-clause-told : goal.returns-in_default-clause-told
returns-in_default-clause-told g c = λ cs.
    let old = places c.args.crowd.now.texts.items (map g.W.Watch.seen c.args.crowd.now.watchers.now.items) in
    subst (λ ns. Hears cs ns old old) (sym (no_way_back c.args.turn c.args.machine.now c.in_default.not-Back)) refl

pub returns-in-Back-clause-part : goal.returns-in-Back-clause-part
returns-in-Back-clause-part g c = λ cs.
    let old = places c.args.crowd.now.texts.items (map g.W.Watch.seen c.args.crowd.now.watchers.now.items) in
    let new = places c.tell_back.new.crowd.texts.items (map g.W.Watch.seen c.tell_back.new.crowd.watchers.now.items) in
    subst (λ t. HearsPart cs (back_behind t c.args.machine.now) old new) (sym c.in-Back.is) (c.tell_back.ensures.part cs)

pub returns-in_default-clause-part : goal.returns-in_default-clause-part
returns-in_default-clause-part g c = λ cs.
    let old = places c.args.crowd.now.texts.items (map g.W.Watch.seen c.args.crowd.now.watchers.now.items) in
    subst (λ ns. HearsPart cs ns old old) (sym (no_way_back c.args.turn c.args.machine.now c.in_default.not-Back)) refl
