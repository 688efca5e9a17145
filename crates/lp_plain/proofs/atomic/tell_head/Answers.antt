use Rattle.std.proofs.Common.{[], ◌∷◌, map, subst, sym}
use Rattle.std.proofs.lemmas.Result.{on_ok_weaker}
use Rattle.lp_watch.specs.Crowd.{places}
use Rattle.lp_model.specs.Skeleton.{GoalNote}
use Rattle.lp_plain.specs.Hearing.{Hears, head_name}
use Rattle.lp_plain.specs.Hearing.{HearsPart}
use Rattle.lp_plain.proofs.atomic.tell_head.Goals as goal

pub returns-in-Constant-clause-told : goal.returns-in-Constant-clause-told
returns-in-Constant-clause-told g c =
    let old = places c.args.crowd.now.texts.items (map g.W.Watch.seen c.args.crowd.now.watchers.now.items) in
    let new = places c.tell_constant.new.crowd.texts.items (map g.W.Watch.seen c.tell_constant.new.crowd.watchers.now.items) in
    on_ok_weaker c.tell_constant.result (λ h. subst (λ d. Hears c.args.constants.now (GoalNote (head_name d) ∷ []) old new) (sym c.in-Constant.is) h) c.tell_constant.ensures.told

pub returns-in-Eigen-clause-told : goal.returns-in-Eigen-clause-told
returns-in-Eigen-clause-told g c =
    let old = places c.args.crowd.now.texts.items (map g.W.Watch.seen c.args.crowd.now.watchers.now.items) in
    let new = places c.tell_eigen.new.crowd.texts.items (map g.W.Watch.seen c.tell_eigen.new.crowd.watchers.now.items) in
    on_ok_weaker c.tell_eigen.result (λ f. subst (λ d. Hears c.args.constants.now (GoalNote (head_name d) ∷ []) old new) (sym c.in-Eigen.is) (f c.args.constants.now)) c.tell_eigen.ensures.told

pub returns-in-Constant-clause-part : goal.returns-in-Constant-clause-part
returns-in-Constant-clause-part g c =
    let old = places c.args.crowd.now.texts.items (map g.W.Watch.seen c.args.crowd.now.watchers.now.items) in
    let new = places c.tell_constant.new.crowd.texts.items (map g.W.Watch.seen c.tell_constant.new.crowd.watchers.now.items) in
    subst (λ d. HearsPart c.args.constants.now (GoalNote (head_name d) ∷ []) old new) (sym c.in-Constant.is) c.tell_constant.ensures.part

pub returns-in-Eigen-clause-part : goal.returns-in-Eigen-clause-part
returns-in-Eigen-clause-part g c =
    let old = places c.args.crowd.now.texts.items (map g.W.Watch.seen c.args.crowd.now.watchers.now.items) in
    let new = places c.tell_eigen.new.crowd.texts.items (map g.W.Watch.seen c.tell_eigen.new.crowd.watchers.now.items) in
    subst (λ d. HearsPart c.args.constants.now (GoalNote (head_name d) ∷ []) old new) (sym c.in-Eigen.is) (c.tell_eigen.ensures.part c.args.constants.now)
