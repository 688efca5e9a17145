use Rattle.std.proofs.Common.{[], ◌∷◌, ◌++◌, ◌∙◌, ap, map, refl}
use Rattle.lp_watch.specs.Crowd.{places}
use Rattle.lp_model.specs.Skeleton.{GoalNote, eigenconstant}
use Rattle.lp_watch.specs.Notes.{goal as told_goal}
use Rattle.lp_plain.proofs.HeardParts.{part_none, told_part}
use Rattle.lp_plain.proofs.name.tell_eigen.Goals as goal

pub returns-in_err-push-clause-part : goal.returns-in_err-push-clause-part
returns-in_err-push-clause-part g c = λ cs.
    let old = places c.args.crowd.now.texts.items (map g.W.Watch.seen c.args.crowd.now.watchers.now.items) in
    part_none cs (GoalNote (eigenconstant c.args.level) ∷ []) old old refl

pub returns-in_err-extend_from_slice-clause-part : goal.returns-in_err-extend_from_slice-clause-part
returns-in_err-extend_from_slice-clause-part g c = λ cs.
    let old = places c.args.crowd.now.texts.items (map g.W.Watch.seen c.args.crowd.now.watchers.now.items) in
    part_none cs (GoalNote (eigenconstant c.args.level) ∷ []) old old refl

pub returns-clause-part : goal.returns-clause-part
returns-clause-part g c = λ cs.
    let made = c.in_ok-push.ensures.items ∙ ap (λ l. l ++ 35 ∷ []) c.new-name.ensures.items in
    let digits = c.as_bytes.ensures.value ∙ c.format.ensures.text in
    told_part cs c.tell.result (GoalNote (eigenconstant c.args.level)) _ _ _
    (ap told_goal (c.as_slice.ensures.value ∙ c.in_ok-extend_from_slice.ensures.items ∙ ap (λ l. l ++ c.as_bytes.result.now) made ∙ ap (λ l. 35 ∷ l) digits)) c.tell.ensures.told c.tell.ensures.memory
