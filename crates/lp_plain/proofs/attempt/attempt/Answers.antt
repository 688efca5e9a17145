use Rattle.std.proofs.Common.{rules, ◌≡◌, ◌∙◌, ap, refl, subst, sym}
use Rattle.lp_plain.specs.declared.unified.Unified.{Unified}
use Rattle.lp_plain.specs.Marks.{HasMarks}
use Rattle.std.proofs.Common.{◌<◌, length}
use Rattle.std.specs.Prelude.{IfSome}
use Rattle.lp_plain.specs.Followed.{IsScopeFor}
use Rattle.lp_plain.specs.Trials.{GrowsByTry, IsTriedAs}
use Rattle.lp_plain.proofs.Opening.{same_stands}
use Rattle.lp_plain.proofs.Trials.{tried_kept}
use Rattle.lp_plain.proofs.TryGrows.{head_alone, with_body}
use Rattle.lp_plain.proofs.TryRead.{tries_read}
use Rattle.lp_plain.proofs.TryScopes.{goals_put_in_front}
use Rattle.lp_plain.proofs.TryWritten.{body_written_on, head_written_on}
use Rattle.lp_plain.proofs.attempt.attempt.Goals as goal

tried : (c : goal.In_ok-put_body) → IsTriedAs c.args.machine.now c.put_body.new.machine c.args.call.now c.args.candidate c.in-Some.tried.0
tried c =
    let k = c.in_ok-put_body.ensures in
    let n = c.in_ok-note.ensures in
    tried_kept c.args.machine.now c.try_head.new.machine c.put_body.new.machine c.args.call.now c.args.candidate c.in-Some.tried.0
    (k.known.known.bank ∙ n.goals.known.bank) (k.known.known.bindings ∙ n.goals.known.bindings)
    (k.next ∙ ap (λ b. b.next) n.course.branch) (ap (λ v. v.items) k.pairs ∙ ap (λ b. b.pairs.items) n.course.branch) (subst (λ o. IfSome o (λ t. IsTriedAs c.args.machine.now c.try_head.new.machine c.args.call.now c.args.candidate t.0)) c.in-Some.is c.in_ok-found.ensures.tried)

grows : (c : goal.In_ok-put_body) → GrowsByTry c.args.machine.now c.put_body.new.machine c.args.call.now
grows c =
    let k = c.in_ok-put_body.ensures in
    let n = c.in_ok-note.ensures in
    let h = c.in_ok-found.ensures in
    with_body c.args.machine.now c.try_head.new.machine c.note.new.self c.put_body.new.machine c.args.call.now _
    (head_alone c.args.machine.now c.try_head.new.machine c.args.call.now h.more h.residual h.stands)
    n.course n.goals n.assumed n.frames refl refl k.known k.assumed k.frame k.choices k.denied k.counts k.next k.next_type k.pairs
    (same_stands c.try_head.new.machine c.note.new.self n.goals n.frames) k.stands

pub returns-clause-tried : goal.returns-clause-tried
returns-clause-tried c = tried c

pub returns-clause-grows : goal.returns-clause-grows
returns-clause-grows c = grows c

pub returns-clause-marks : goal.returns-clause-marks
returns-clause-marks c = λ e l u h x y.
    let n = c.in_ok-note.ensures in
    let f = n.frames ∙ c.in_ok-found.ensures.more.frames in
    c.in_ok-put_body.ensures.marks l u (subst (λ v. HasMarks l u v.items c.args.call.now.behind) (sym f) h) x y

pub returns-clause-leaves : goal.returns-clause-leaves
returns-clause-leaves c =
    let k = c.in_ok-put_body.ensures in
    let n = c.in_ok-note.ensures in
    let h = c.in_ok-found.ensures in
    tries_read c.args.machine.now c.put_body.new.machine c.args.call.now c.args.candidate c.args.mark c.in-Some.tried.0 (tried c)
    (λ e. goals_put_in_front c.args.machine.now c.try_head.new.machine c.note.new.self c.put_body.new.machine c.args.call.now c.args.candidate
    c.in-Some.tried.1 c.args.mark c.in-Some.tried.2 h.more (subst (λ o. IfSome o (λ t. IsScopeFor c.args.machine.now c.try_head.new.machine c.args.call.now c.args.candidate t.1 t.2)) c.in-Some.is c.in_ok-found.ensures.scope) n.goals k.body)
    (λ vs g values σ T own. let t = h.types vs g values σ T own in (t.0, k.next_type ∙ ap (λ b. b.next_type) n.course.branch ∙ t.1))

not_fitting : (c : goal.Then-ne) → c.in-Some.tried.0 ≡ Unified.Fits → ⊥
not_fitting c = search rules

pub returns-then-ne-clause-leaves : goal.returns-then-ne-clause-leaves
returns-then-ne-clause-leaves c =
    let h = c.in_ok-found.ensures in
    tries_read c.args.machine.now c.try_head.new.machine c.args.call.now c.args.candidate c.args.mark c.in-Some.tried.0 (subst (λ o. IfSome o (λ t. IsTriedAs c.args.machine.now c.try_head.new.machine c.args.call.now c.args.candidate t.0)) c.in-Some.is c.in_ok-found.ensures.tried) (λ e. absurd (not_fitting c e)) h.types

pub returns-clause-written : goal.returns-clause-written
returns-clause-written c =
    let k = c.in_ok-put_body.ensures in
    let n = c.in_ok-note.ensures in
    let h = c.in_ok-found.ensures in
    body_written_on c.args.machine.now c.try_head.new.machine c.note.new.self c.put_body.new.machine c.args.call.now c.args.candidate
    c.in-Some.tried.1 _ h.more (subst (λ o. IfSome o (λ t. IsScopeFor c.args.machine.now c.try_head.new.machine c.args.call.now c.args.candidate t.1 t.2)) c.in-Some.is c.in_ok-found.ensures.scope) n.goals n.assumed n.frames k.known k.assumed
    (k.choices ∙ n.course.choices ∙ ap (λ v. v.items) h.more.choices) k.puts

pub returns-then-ne-clause-written : goal.returns-then-ne-clause-written
returns-then-ne-clause-written c = head_written_on c.args.machine.now c.try_head.new.machine c.args.call.now c.args.candidate c.in_ok-found.ensures.more

pub put_body-requires : goal.put_body-requires
put_body-requires c =
    subst (λ z. c.in-Some.tried.1 < length z.rules.items) (sym c.in_ok-note.ensures.goals.known.table)
    (subst (λ o. IfSome o (λ t. t.1 < length c.try_head.new.machine.table.rules.items)) c.in-Some.is c.in_ok-found.ensures.there)

pub returns-in_default-clause-grows : goal.returns-in_default-clause-grows
returns-in_default-clause-grows c =
    let h = c.in_ok-found.ensures in
    head_alone c.args.machine.now c.try_head.new.machine c.args.call.now h.more h.residual h.stands

pub returns-in_default-clause-marks : goal.returns-in_default-clause-marks
returns-in_default-clause-marks c = λ e. absurd (let q : Unified.Fails ≡ Unified.Fits = e in cc)

pub returns-in_default-clause-tried : goal.returns-in_default-clause-tried
returns-in_default-clause-tried c = λ vs h values σ T. absurd (c.in_ok-found.ensures.none c.in_default.is vs h values σ T)

pub returns-in_default-clause-written : goal.returns-in_default-clause-written
returns-in_default-clause-written c = λ ar vs h values σ T. absurd (c.in_ok-found.ensures.none c.in_default.is vs h values σ T)

pub returns-in_default-clause-leaves : goal.returns-in_default-clause-leaves
returns-in_default-clause-leaves c = λ vs h values σ T. absurd (c.in_ok-found.ensures.none c.in_default.is vs h values σ T)

pub returns-then-ne-clause-tried : goal.returns-then-ne-clause-tried
returns-then-ne-clause-tried c = subst (λ o. IfSome o (λ t. IsTriedAs c.args.machine.now c.try_head.new.machine c.args.call.now c.args.candidate t.0)) c.in-Some.is c.in_ok-found.ensures.tried

pub returns-then-ne-clause-grows : goal.returns-then-ne-clause-grows
returns-then-ne-clause-grows c =
    let h = c.in_ok-found.ensures in
    head_alone c.args.machine.now c.try_head.new.machine c.args.call.now h.more h.residual h.stands
