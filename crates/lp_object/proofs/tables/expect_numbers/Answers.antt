use Rattle.std.proofs.Common.{map, refl, arith}
use Rattle.std.proofs.lemmas.List.{length-map}
use Rattle.std.proofs.lemmas.Result.{err_from_is_err_and}
use Rattle.lp_lemmas.proofs.Lists.{get_map, get_read}
use Rattle.lp_bytes.specs.Numbers.{spelled_four}
use Rattle.lp_object.proofs.Expecting.{field_passes, field_fails, fields_passed}
use Rattle.lp_object.proofs.tables.expect_numbers.Goals as goal

pub returns-in_err-expect_four : goal.returns-in_err-expect_four
returns-in_err-expect_four c =
    let ns = c.args.numbers.now in
    let i = c.loop-number.number-index in
    let p = err_from_is_err_and c.from_residual.result c.from_residual.ensures.1 in
    rw (p.1, p.2)
    (field_fails _ (map (λ n. spelled_four n) ns) i _ _ _ (get_map (λ n. spelled_four n) ns i c.from.result (get_read ns ns i c.from.result _ refl (omega (arith, c.loop-number-test.true)) c.from.ensures)) c.in_err-expect_four.ensures c.loop-number.invariant)

pub loop-number-preserved : goal.loop-number-preserved
loop-number-preserved c =
    let ns = c.args.numbers.now in
    let i = c.loop-number.number-index in
    field_passes (map (λ n. spelled_four n) ns) i _ _ _ _ (get_map (λ n. spelled_four n) ns i c.from.result (get_read ns ns i c.from.result _ refl (omega (arith, c.loop-number-test.true)) c.from.ensures)) c.in_ok-expect_four.ensures c.loop-number.invariant

pub returns : goal.returns
returns c =
    fields_passed (map (λ n. spelled_four n) c.args.numbers.now) c.loop-number.number-index _ _ (omega (arith, length-map c.args.numbers.now (λ n. spelled_four n), c.loop-number-test.false)) c.loop-number.invariant
