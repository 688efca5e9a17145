use Rattle.std.proofs.Common.{◌∷◌, length, map, ◌∙◌}
use Rattle.std.proofs.lemmas.Result.{err_from_is_err_and}
use Rattle.lp_bytes.specs.Numbers.{spelled_four}
use Rattle.lp_bytes.specs.Reading.{left_of}
use Rattle.lp_bytes.proofs.Looping.{fails_so}
use Rattle.lp_code.specs.Groups.{looked_key}
use Rattle.lp_object.specs.Reading.{all_expected_at}
use Rattle.lp_object.specs.Tables.{key_fields}
use Rattle.lp_object.proofs.Expecting.{part_then, part_stops, field_then, field_stops, passes_so}
use Rattle.lp_object.proofs.tables.expect_group.Goals as goal

pub returns-in_err-expect_key : goal.returns-in_err-expect_key
returns-in_err-expect_key c =
    let ns = c.args.records.now in
    let p = err_from_is_err_and c.from_residual.result c.from_residual.ensures.1 in
    rw (p.1, p.2) (part_stops _ (key_fields (looked_key c.args.key)) (spelled_four (length ns) ∷ map (λ n. spelled_four n) ns) _ c.in_err-expect_key.ensures)

pub returns-in_err-expect_four : goal.returns-in_err-expect_four
returns-in_err-expect_four c =
    let ns = c.args.records.now in
    let fs = map (λ n. spelled_four n) ns in
    let p = err_from_is_err_and c.from_residual-in_err-expect_four.result c.from_residual-in_err-expect_four.ensures.1 in
    rw (p.1, p.2)
    (fails_so _ (all_expected_at (spelled_four (length ns) ∷ fs) (left_of c.expect_key.new.reader)) _ (part_then (key_fields (looked_key c.args.key)) (spelled_four (length ns) ∷ fs) _ _ c.in_ok-expect_key.ensures)
    (field_stops _ (spelled_four (length ns)) fs _ c.in_err-expect_four.ensures))

pub returns : goal.returns
returns c =
    let ns = c.args.records.now in
    let fs = map (λ n. spelled_four n) ns in
    passes_so c.expect_numbers.result _ _ _ (part_then (key_fields (looked_key c.args.key)) (spelled_four (length ns) ∷ fs) _ _ c.in_ok-expect_key.ensures ∙ field_then (spelled_four (length ns)) fs _ _ c.in_ok-expect_four.ensures) c.expect_numbers.ensures
