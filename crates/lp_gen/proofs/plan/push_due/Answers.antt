use Rattle.std.proofs.Common.{◌≡◌, [], length, refl, sym, subst, arith}
use Rattle.std.proofs.lemmas.List.{append-nil, take_all}
use Rattle.std.proofs.lemmas.Option.{slice_get_read}
use Rattle.lp_gen.specs.inner.Planning.{AreDue}
use Rattle.lp_gen.proofs.PlanDone.{due_put}
use Rattle.lp_gen.proofs.plan.push_due.Goals as goal

pub loop-at-init : goal.loop-at-init
loop-at-init c = ([], sym (append-nil c.args.due.now.items), refl)

pub loop-at-preserved : goal.loop-at-preserved
loop-at-preserved c =
    let cs = c.args.clauses.now in
    let i = c.loop-at.invariant in
    due_put c.args.number c.args.base c.loop-at.at cs c.args.due.now.items c.loop-at.due.items c.push.new.self.items i.0 _ c.in_ok-push.ensures.items
    (slice_get_read cs (length cs) c.loop-at.at c.index-clauses-at.result refl (omega (arith, c.loop-at-test.true)) c.index-clauses-at.is) i.1 i.2

pub returns : goal.returns
returns c =
    let cs = c.args.clauses.now in
    let i = c.loop-at.invariant in
    let last : c.loop-at.at ≡ length cs = omega (arith, c.loop-at-test.false, c.loop-at.auto.at-end) in
    (i.0, i.1, subst (λ l. AreDue c.args.number c.args.base l i.0) (take_all c.loop-at.at cs (omega (arith, last))) i.2)
