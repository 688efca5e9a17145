use Rattle.std.proofs.Common.{◌≡◌, ◌∙◌, ◌++◌, ◌∷◌, [], ◌<◌, length, None, ap, sym, refl, subst, arith}
use Rattle.std.specs.Prelude.{slice_get}
use Rattle.std.proofs.lemmas.Option.{slice_get_read}
use Rattle.std.proofs.lemmas.List.{length-append}
use Rattle.lp_gen.specs.declared.plan.Part.{Part}
use Rattle.lp_gen.specs.inner.Planning.{PlanStands}
use Rattle.lp_gen.proofs.AssumptionPut.{no_assumption}
use Rattle.lp_gen.proofs.PlanParts.{plan_begins, plan_grows}
use Rattle.lp_gen.proofs.RecordsCounted.{begins_counted, part_counted, all_counted, over_counted, most_few}
use Rattle.lp_gen.proofs.Leveling.{first_low, low_behind, first_fits, more_fits}
use Rattle.lp_gen.proofs.plan.Plan.of.Goals as goal

pub parts-init : goal.parts-init
parts-init c = (
  plan_begins c.args.origin c.push.new.self.items c.new-2.result.items c.new-3.result.items
      (c.in_ok-push.ensures.items ∙ ap (λ l. l ++ record { origin = c.args.origin; within = None; base = 0 } ∷ []) c.new.ensures.items)
      c.new-2.ensures.items c.new-3.ensures.items,
  λ n x at. absurd (no_assumption x (sym (ap (λ l. slice_get l n) c.new-3.ensures.items) ∙ at)),
  (let z = ap length c.new-2.ensures.items in omega (arith, z)),
  begins_counted c.args.bank.now c.args.origin c.push.new.self.items c.new-2.result.items (record { origin = c.args.origin; within = None; base = 0 })
      (c.in_ok-push.ensures.items ∙ ap (λ l. l ++ record { origin = c.args.origin; within = None; base = 0 } ∷ []) c.new.ensures.items) refl c.new-2.ensures.items,
  first_low c.push.new.self.items (record { origin = c.args.origin; within = None; base = 0 })
      (c.in_ok-push.ensures.items ∙ ap (λ l. l ++ record { origin = c.args.origin; within = None; base = 0 } ∷ []) c.new.ensures.items) refl,
  first_fits c.args.bank.now c.push.new.self.items (record { origin = c.args.origin; within = None; base = 0 })
      (c.in_ok-push.ensures.items ∙ ap (λ l. l ++ record { origin = c.args.origin; within = None; base = 0 } ∷ []) c.new.ensures.items),
)

pub parts-preserved : goal.parts-preserved
parts-preserved c =
    let ps = c.parts.plan.parts.items in
    let us = c.parts.plan.due.items in
    let low : length ps < length us = omega (arith, c.parts-test.true) in
    let u = c.index-due.result.now in
    let place : c.len-at.result ≡ length ps = omega (arith, c.len-at.ensures, c.parts.plan.parts.ok) in
    let there = slice_get_read us (length us) c.len-at.result u refl (omega (arith, low, place)) c.index-due.ensures in
    let part : Part = record { origin = u.origin; within = u.within; base = u.base; steps = c.in_ok-steps.steps } in
    let all = c.in_ok-push-2.ensures.items ∙ ap (λ v. v.items ++ part ∷ []) c.in_ok-steps.ensures.parts in (
      subst (λ l. PlanStands c.args.origin c.walk.new.self.due.items l c.walk.new.self.assumptions.items) (sym all)
          (plan_grows c.args.origin us c.walk.new.self.due.items ps c.parts.plan.assumptions.items c.walk.new.self.assumptions.items u c.in_ok-steps.steps c.parts.invariant.0
          (ap (slice_get us) (sym place) ∙ there) low c.in_ok-steps.ensures.walked),
      c.in_ok-steps.ensures.captured c.parts.invariant.1,
      (let z = ap length all in let y = length-append ps (part ∷ []) in omega (arith, z, y, place, c.if-at-most.false, c.most_records-most.ensures.most)),
      part_counted c.args.bank.now c.args.origin us c.walk.new.self.due.items c.parts.plan.assumptions.items c.walk.new.self.assumptions.items ps c.push-in-parts.new.self.items u part
          c.in_ok-steps.steps.items c.in_ok-steps.ensures.walked all refl c.parts.invariant.3,
      low_behind us c.walk.new.self.due.items c.in_ok-steps.ensures.dues.0 u (length ps) c.parts.invariant.4 (ap (slice_get us) (sym place) ∙ there) low c.in_ok-steps.ensures.dues.1
          c.in_ok-steps.ensures.dues.2,
      λ h. more_fits c.args.bank.now us c.walk.new.self.due.items c.in_ok-steps.ensures.dues.0 u (length ps) (ap (slice_get us) (sym place) ∙ there) c.in_ok-steps.ensures.dues.1
          c.in_ok-steps.ensures.dues.3 (c.parts.invariant.5 h),
    )

pub returns-clause-planned : goal.returns-clause-planned
returns-clause-planned c = record {
  stands = c.parts.invariant.0;
  all = let s = c.parts.invariant.0.some in omega (arith, s, c.parts-test.false, c.parts.plan.parts.ok, c.parts.plan.due.ok);
}

pub returns-clause-few : goal.returns-clause-few
returns-clause-few c = let f = c.parts.invariant.2 in let m = most_few c.args.origin in omega (arith, f, m)

pub returns-clause-count : goal.returns-clause-count
returns-clause-count c =
    all_counted c.args.bank.now c.args.origin c.parts.plan.due.items c.parts.plan.parts.items c.parts.plan.assumptions.items c.parts.invariant.0 c.parts.invariant.3
    (omega (arith, c.parts-test.false, c.parts.plan.parts.ok, c.parts.plan.due.ok))

pub returns-clause-within : goal.returns-clause-within
returns-clause-within c =
    let f = c.parts.invariant.2 in
    let n = all_counted c.args.bank.now c.args.origin c.parts.plan.due.items c.parts.plan.parts.items c.parts.plan.assumptions.items c.parts.invariant.0 c.parts.invariant.3
    (omega (arith, c.parts-test.false, c.parts.plan.parts.ok, c.parts.plan.due.ok)) in
    omega (arith, f, n)

pub returns-clause-captured : goal.returns-clause-captured
returns-clause-captured c = c.parts.invariant.1

pub returns-then-at-most-clause-cause : goal.returns-then-at-most-clause-cause
returns-then-at-most-clause-cause c =
    let b = c.args.bank.now in
    let us = c.parts.plan.due.items in
    let ps = c.parts.plan.parts.items in
    let place : c.len-at.result ≡ length ps = omega (arith, c.len-at.ensures, c.parts.plan.parts.ok) in
    over_counted b c.args.origin us ps c.parts.plan.assumptions.items c.parts.invariant.0 c.parts.invariant.3 (omega (arith, c.parts-test.true))
    (omega (arith, place, c.if-at-most.true, c.most_records-most.ensures.most))
