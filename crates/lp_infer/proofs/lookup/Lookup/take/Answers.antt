use Rattle.std.proofs.Common.{◌≡◌, ◌<◌, ◌∷◌, sym, subst, refl, reverse, arith}
use Rattle.lp_infer.specs.inner.Turns.{turns}
use Rattle.std.proofs.lemmas.Result.{IfOk-weaker}
use Rattle.lp_infer.specs.Levels.{HasScope, level_of}
use Rattle.lp_infer.specs.Visits.{Looked}
use Rattle.lp_infer.proofs.Passing.{past_leave, past_apply}
use Rattle.lp_infer.proofs.lookup.Lookup.take.Goals as goal

pub returns-in-Visit-clause-looked : goal.returns-in-Visit-clause-looked
returns-in-Visit-clause-looked c =
    IfOk-weaker c.visit.result _ _ (λ ok k root S.
    k root (subst (λ t. Looked c.args.signature.now c.args.source.now c.args.raw.now.nodes.items root c.args.self.now (t ∷ reverse c.args.work.now.items)) c.in-Visit.is S)) c.visit.ensures.looked

pub returns-in_ok-push-in-Leave-clause-looked : goal.returns-in_ok-push-in-Leave-clause-looked
returns-in_ok-push-in-Leave-clause-looked c = λ root S.
    past_leave c.args.signature.now c.args.source.now c.args.raw.now.nodes.items root c.args.self.now _ c.in-Leave.spot c.in-Leave.outside (reverse c.args.work.now.items) c.in_ok-push-in-Leave.ensures.items refl refl refl
    (subst (λ w. (names : _) → HasScope (w ∷ names) c.args.self.now.scope → c.in-Leave.outside ≡ level_of w names → HasScope names c.leave.new.self) c.spelled_at.ensures c.in_ok-leave-in-Leave.ensures)
    (subst (λ t. Looked c.args.signature.now c.args.source.now c.args.raw.now.nodes.items root c.args.self.now (t ∷ reverse c.args.work.now.items)) c.in-Leave.is S)

pub returns-in_ok-push-in-Apply-clause-looked : goal.returns-in_ok-push-in-Apply-clause-looked
returns-in_ok-push-in-Apply-clause-looked c = λ root S.
    past_apply c.args.signature.now c.args.source.now c.args.raw.now.nodes.items root c.args.self.now _ (reverse c.args.work.now.items) c.in_ok-push-in-Apply.ensures.items refl refl refl refl
    (subst (λ t. Looked c.args.signature.now c.args.source.now c.args.raw.now.nodes.items root c.args.self.now (t ∷ reverse c.args.work.now.items)) c.in-Apply.is S)

pub returns-in-Visit-clause-fewer : goal.returns-in-Visit-clause-fewer
returns-in-Visit-clause-fewer c =
    IfOk-weaker c.visit.result _ _ (λ ok k e. subst (λ t. turns (reverse c.visit.new.work.items) < turns (t ∷ reverse c.args.work.now.items)) (sym c.in-Visit.is) (k e)) c.visit.ensures.fewer

pub returns-in_ok-push-in-Leave-clause-fewer : goal.returns-in_ok-push-in-Leave-clause-fewer
returns-in_ok-push-in-Leave-clause-fewer c = λ e. subst (λ t. turns (reverse c.args.work.now.items) < turns (t ∷ reverse c.args.work.now.items)) (sym c.in-Leave.is) (omega arith)

pub returns-in_ok-push-in-Apply-clause-fewer : goal.returns-in_ok-push-in-Apply-clause-fewer
returns-in_ok-push-in-Apply-clause-fewer c = λ e. subst (λ t. turns (reverse c.args.work.now.items) < turns (t ∷ reverse c.args.work.now.items)) (sym c.in-Apply.is) (omega arith)
