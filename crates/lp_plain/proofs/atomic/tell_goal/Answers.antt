use Rattle.std.proofs.Common.{◌∙◌, ap, map, sym}
use Rattle.std.proofs.lemmas.Result.{on_ok_weaker}
use Rattle.lp_watch.specs.Crowd.{crowd_after, places}
use Rattle.lp_watch.specs.Notes.{goal as told_goal}
use Rattle.lp_plain.specs.Forms.{order_number}
use Rattle.lp_plain.specs.Hearing.{constant_text}
use Rattle.lp_plain.proofs.Hearing.{heard_as}
use Rattle.lp_model.specs.Skeleton.{GoalNote, named}
use Rattle.lp_standard.specs.Numbers as number
use Rattle.lp_plain.proofs.HeardParts.{part_as, told_part}
use Rattle.lp_plain.proofs.atomic.tell_goal.Goals as goal

pub returns-in-Order-clause-told : goal.returns-in-Order-clause-told
returns-in-Order-clause-told g c =
    let cs = c.args.constants.now in
    let old = places c.args.crowd.now.texts.items (map g.W.Watch.seen c.args.crowd.now.watchers.now.items) in
    let new = places c.tell-in-Order.new.self.texts.items (map g.W.Watch.seen c.tell-in-Order.new.self.watchers.now.items) in
    on_ok_weaker c.tell-in-Order.result
    (λ h. heard_as cs old new _ c.args.form (sym c.in-Order.is)
    (h ∙ ap (λ bs. crowd_after (told_goal bs) old) (c.name-in-Order.ensures ∙ sym (ap (constant_text cs (order_number c.in-Order.order)) c.order_constant.ensures)))) c.tell-in-Order.ensures.told

pub returns-in-Call-clause-told : goal.returns-in-Call-clause-told
returns-in-Call-clause-told g c =
    let old = places c.args.crowd.now.texts.items (map g.W.Watch.seen c.args.crowd.now.watchers.now.items) in
    let new = places c.tell_head.new.crowd.texts.items (map g.W.Watch.seen c.tell_head.new.crowd.watchers.now.items) in
    on_ok_weaker c.tell_head.result (λ h. heard_as c.args.constants.now old new _ c.args.form (sym c.in-Call.is) h) c.tell_head.ensures.told

pub returns-in-Flexible-clause-told : goal.returns-in-Flexible-clause-told
returns-in-Flexible-clause-told g c =
    let cs = c.args.constants.now in
    let old = places c.args.crowd.now.texts.items (map g.W.Watch.seen c.args.crowd.now.watchers.now.items) in
    let new = places c.tell_variable.new.crowd.texts.items (map g.W.Watch.seen c.tell_variable.new.crowd.watchers.now.items) in
    on_ok_weaker c.tell_variable.result (λ f. heard_as cs old new _ c.args.form (sym c.in-Flexible.is) (f cs)) c.tell_variable.ensures.told

pub returns-in-Other-clause-told : goal.returns-in-Other-clause-told
returns-in-Other-clause-told g c =
    let cs = c.args.constants.now in
    let old = places c.args.crowd.now.texts.items (map g.W.Watch.seen c.args.crowd.now.watchers.now.items) in
    let new = places c.tell_variable-in-Other.new.crowd.texts.items (map g.W.Watch.seen c.tell_variable-in-Other.new.crowd.watchers.now.items) in
    on_ok_weaker c.tell_variable-in-Other.result (λ f. heard_as cs old new _ c.args.form (sym c.in-Other.is) (f cs)) c.tell_variable-in-Other.ensures.told

pub returns-in-Equal-clause-part : goal.returns-in-Equal-clause-part
returns-in-Equal-clause-part g c =
    let cs = c.args.constants.now in
    part_as cs _ _ _ c.args.form (sym c.in-Equal.is) (told_part cs c.tell.result (GoalNote (named number.Equal)) _ _ _ (ap told_goal c.name.ensures) c.tell.ensures.told c.tell.ensures.memory)

pub returns-in-Is-clause-part : goal.returns-in-Is-clause-part
returns-in-Is-clause-part g c =
    let cs = c.args.constants.now in
    part_as cs _ _ _ c.args.form (sym c.in-Is.is) (told_part cs c.tell-in-Is.result (GoalNote (named number.Is)) _ _ _ (ap told_goal c.name-in-Is.ensures) c.tell-in-Is.ensures.told c.tell-in-Is.ensures.memory)

pub returns-in-Order-clause-part : goal.returns-in-Order-clause-part
returns-in-Order-clause-part g c =
    let cs = c.args.constants.now in
    part_as cs _ _ _ c.args.form (sym c.in-Order.is) (told_part cs c.tell-in-Order.result (GoalNote (named (order_number c.in-Order.order))) _ _ _
    (ap told_goal (c.name-in-Order.ensures ∙ sym (ap (constant_text cs (order_number c.in-Order.order)) c.order_constant.ensures))) c.tell-in-Order.ensures.told c.tell-in-Order.ensures.memory)

pub returns-in-Call-clause-part : goal.returns-in-Call-clause-part
returns-in-Call-clause-part g c =
    let cs = c.args.constants.now in
    part_as cs _ _ _ c.args.form (sym c.in-Call.is) c.tell_head.ensures.part

pub returns-in-Flexible-clause-part : goal.returns-in-Flexible-clause-part
returns-in-Flexible-clause-part g c =
    let cs = c.args.constants.now in
    part_as cs _ _ _ c.args.form (sym c.in-Flexible.is) (c.tell_variable.ensures.part cs)

pub returns-in-Other-clause-part : goal.returns-in-Other-clause-part
returns-in-Other-clause-part g c =
    let cs = c.args.constants.now in
    part_as cs _ _ _ c.args.form (sym c.in-Other.is) (c.tell_variable-in-Other.ensures.part cs)
