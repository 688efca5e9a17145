use Rattle.std.proofs.Common.{◌≡◌, ◌∙◌, ◌+◌, ◌∷◌, [], length, ap, arith}
use Rattle.std.proofs.lemmas.List.{length-append}
use Rattle.lp_gen.specs.inner.GoalCode.{numbers}
use Rattle.lp_gen.proofs.AssumptionPut.{number_more}
use Rattle.lp_gen.proofs.record.records_of.Goals as goal

pub loop-at-init : goal.loop-at-init
loop-at-init c = (λ few. c.new-records.ensures.items, ap length c.new-records.ensures.items)

pub loop-at-preserved : goal.loop-at-preserved
loop-at-preserved c =
    let place = c.saturating_add.ensures in
    let exact = c.number_of-place.ensures in
    let n = ap length c.in_ok-push.ensures.items ∙ length-append c.loop-at.records.items (c.saturating_add-in-loop-at.result ∷ []) in
    let i = c.loop-at.invariant.1 in (
      number_more c.args.first c.args.assumption.now.first c.args.assumption.now.count c.loop-at.at c.saturating_add.result c.number_of-place.result
          c.saturating_add-in-loop-at.result c.loop-at.records.items
          c.push.new.self.items c.loop-at.invariant.0 c.loop-at-test.true place exact c.saturating_add-in-loop-at.ensures c.in_ok-push.ensures.items,
      omega (arith, n, i),
    )

pub returns-clause-numbers : goal.returns-clause-numbers
returns-clause-numbers c = λ few.
    let last : c.loop-at.at ≡ c.args.assumption.now.count = omega (arith, c.loop-at-test.false, c.loop-at.auto.at-end) in
    c.loop-at.invariant.0 few ∙ ap (numbers (c.args.first + c.args.assumption.now.first)) last

pub returns-clause-count : goal.returns-clause-count
returns-clause-count c = let i = c.loop-at.invariant.1 in omega (arith, i, c.loop-at-test.false, c.loop-at.auto.at-end)
