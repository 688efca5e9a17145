use Rattle.std.proofs.Common.{◌∙◌, ◌≡◌, sym}
use Rattle.std.specs.Int.{w64}
use Rattle.std.proofs.lemmas.Int.{to_z-of_z}
use Rattle.lp_cert.proofs.Evaluating.{by_sum, by_difference, by_product, by_quotient, by_remainder, no_numbers}
use Rattle.lp_cert.proofs.value.on_numbers.Goals as goal

pub returns-then-operation-add : goal.returns-then-operation-add
returns-then-operation-add c = λ end. by_sum end c.args.operation c.args.left c.args.right _ _ (to_z-of_z w64 c.args.left c.ranges.left)
    (to_z-of_z w64 c.args.right c.ranges.right) c.checked_add.result c.state_of.result c.state_of.ensures
    (c.if-operation-add.true ∙ c.number-add.ensures.number) c.checked_add.ensures

pub returns-then-operation-subtract : goal.returns-then-operation-subtract
returns-then-operation-subtract c = λ end. by_difference end c.args.operation c.args.left c.args.right _ _ (to_z-of_z w64 c.args.left c.ranges.left)
    (to_z-of_z w64 c.args.right c.ranges.right) c.checked_sub.result c.state_of-then-operation-subtract.result
    c.state_of-then-operation-subtract.ensures (c.if-operation-subtract.true ∙ c.number-subtract.ensures.number) c.checked_sub.ensures

pub returns-then-operation-multiply : goal.returns-then-operation-multiply
returns-then-operation-multiply c = λ end. by_product end c.args.operation c.args.left c.args.right _ _ (to_z-of_z w64 c.args.left c.ranges.left)
    (to_z-of_z w64 c.args.right c.ranges.right) c.checked_mul.result c.state_of-then-operation-multiply.result
    c.state_of-then-operation-multiply.ensures (c.if-operation-multiply.true ∙ c.number-multiply.ensures.number) c.checked_mul.ensures

pub returns-then-operation-divide : goal.returns-then-operation-divide
returns-then-operation-divide c = λ end. by_quotient end c.args.operation c.args.left c.args.right _ _ (to_z-of_z w64 c.args.left c.ranges.left)
    (to_z-of_z w64 c.args.right c.ranges.right) c.checked_div.result c.state_of-then-operation-divide.result c.state_of-then-operation-divide.ensures
    (c.if-operation-divide.true ∙ c.number-divide.ensures.number) c.ranges.right c.checked_div.ensures

pub returns-then-operation-remainder : goal.returns-then-operation-remainder
returns-then-operation-remainder c = λ end. by_remainder end c.args.operation c.args.left c.args.right _ _ (to_z-of_z w64 c.args.left c.ranges.left)
    (to_z-of_z w64 c.args.right c.ranges.right) c.checked_rem.result c.state_of-then-operation-remainder.result
    c.state_of-then-operation-remainder.ensures (c.if-operation-remainder.true ∙ c.number-remainder.ensures.number) c.ranges.right
    c.checked_rem.ensures c.ranges.left

pub returns : goal.returns
returns c = λ end. no_numbers c.args.operation c.args.left c.args.right (λ e. c.if-operation-add.false (e ∙ sym c.number-add.ensures.number))
    (λ e. c.if-operation-subtract.false (e ∙ sym c.number-subtract.ensures.number))
    (λ e. c.if-operation-multiply.false (e ∙ sym c.number-multiply.ensures.number))
    (λ e. c.if-operation-divide.false (e ∙ sym c.number-divide.ensures.number)) (λ e. c.if-operation-remainder.false
    (e ∙ sym c.number-remainder.ensures.number))
