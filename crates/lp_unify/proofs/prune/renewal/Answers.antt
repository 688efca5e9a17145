use Rattle.std.proofs.Common.{sym, subst}
use Rattle.std.specs.Prelude.{All}
use Rattle.lp_lemmas.proofs.Elements.{All_empty}
use Rattle.lp_unify.specs.Inside.{IsApart}
use Rattle.lp_unify.proofs.Frames.{stays_then}
use Rattle.lp_unify.proofs.Apart.{all_apart_stays, variable_stays}
use Rattle.lp_unify.proofs.prune.renewal.Goals as goal

pub returns-in_err-variable-clause-stays : goal.returns-in_err-variable-clause-stays
returns-in_err-variable-clause-stays c =
    let o = c.args.store.now in
    let b = c.push_places.new.store in
    stays_then o b c.put_variable.new.store (stays_then o c.push_low.new.store b c.in_ok-push_low.ensures.stays c.in_ok-push_places.ensures.stays) c.in_err-variable.ensures.stays

pub returns-in_err-body-clause-stays : goal.returns-in_err-body-clause-stays
returns-in_err-body-clause-stays c =
    let o = c.args.store.now in
    let b = c.push_places.new.store in
    let d = c.put_variable.new.store in
    stays_then o d c.put_application.new.store (stays_then o b d (stays_then o c.push_low.new.store b c.in_ok-push_low.ensures.stays c.in_ok-push_places.ensures.stays) c.in_ok-variable.ensures.stays) c.in_err-body.ensures.stays

pub returns-in_err-value-clause-stays : goal.returns-in_err-value-clause-stays
returns-in_err-value-clause-stays c =
    let o = c.args.store.now in
    let b = c.push_places.new.store in
    let d = c.put_variable.new.store in
    let e = c.put_application.new.store in
    stays_then o e c.put_abstractions.new.store
    (stays_then o d e (stays_then o b d (stays_then o c.push_low.new.store b c.in_ok-push_low.ensures.stays c.in_ok-push_places.ensures.stays) c.in_ok-variable.ensures.stays) c.in_ok-body.ensures.stays) c.in_err-value.ensures.stays

pub returns-clause-stays : goal.returns-clause-stays
returns-clause-stays c =
    let o = c.args.store.now in
    let b = c.push_places.new.store in
    let d = c.put_variable.new.store in
    let e = c.put_application.new.store in
    stays_then o e c.put_abstractions.new.store
    (stays_then o d e (stays_then o b d (stays_then o c.push_low.new.store b c.in_ok-push_low.ensures.stays c.in_ok-push_places.ensures.stays) c.in_ok-variable.ensures.stays) c.in_ok-body.ensures.stays) c.in_ok-value.ensures.stays

pub returns-clause-fresh : goal.returns-clause-fresh
returns-clause-fresh c = λ x h.
    let a = c.push_low.new.store in
    let b = c.push_places.new.store in
    let d = c.put_variable.new.store in
    let i = variable_stays c.args.store.now a x c.in_ok-push_low.ensures.stays h in
    let j = variable_stays a b x c.in_ok-push_places.ensures.stays i in
    let k = variable_stays b d x c.in_ok-variable.ensures.stays j in
    let l = variable_stays d c.put_application.new.store x c.in_ok-body.ensures.stays k in
    let p = c.in_ok-push_places.ensures.apart x i (c.in_ok-push_low.ensures.apart x h (All_empty (IsApart c.args.store.now x) c.new-arguments.result.items c.new-arguments.ensures.items)) in
    c.in_ok-value.ensures.apart x l
    (c.in_ok-body.ensures.apart x k (c.in_ok-variable.ensures.fresh x j) (subst (All (IsApart d x)) (sym c.as_slice.ensures.value) (all_apart_stays b d x c.push_places.new.arguments.items c.in_ok-variable.ensures.stays j p)))
