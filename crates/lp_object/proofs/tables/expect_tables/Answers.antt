use Rattle.std.proofs.Common.{◌≡◌, length, map, sym, ap, ◌∙◌, arith}
use Rattle.std.specs.List.{flat_map}
use Rattle.std.proofs.lemmas.Result.{err_from_is_err_and}
use Rattle.lp_bytes.specs.Numbers.{spelled_four}
use Rattle.lp_bytes.specs.Reading.{left_of}
use Rattle.lp_object.specs.Plain.{plain_record}
use Rattle.lp_object.specs.Reading.{all_expected_at}
use Rattle.lp_object.specs.Tables.{groups_fields, heads_of}
use Rattle.lp_object.proofs.Grouped.{heads_are}
use Rattle.lp_object.proofs.Expecting.{field_then_as, field_stops_as, passes_so}
use Rattle.lp_object.proofs.tables.expect_tables.Goals as goal

pub returns-in_err-expect_four : goal.returns-in_err-expect_four
returns-in_err-expect_four c =
    let rs = map plain_record c.args.image.now.code.records.items in
    let heads : c.in_ok-heads.heads.items ≡ heads_of rs = c.in_ok-heads.ensures.heads ∙ heads_are c.args.image.now.code.records.items in
    let count : c.len.result ≡ length (heads_of rs) = omega (arith, c.len.ensures, c.in_ok-heads.heads.ok, ap length heads) in
    let p = err_from_is_err_and c.from_residual-in_err-expect_four.result c.from_residual-in_err-expect_four.ensures.1 in
    rw (p.1, p.2) (field_stops_as _ _ _ _ _ (ap (λ n. spelled_four n) count) c.in_err-expect_four.ensures)

pub returns : goal.returns
returns c =
    let rs = map plain_record c.args.image.now.code.records.items in
    let heads : c.in_ok-heads.heads.items ≡ heads_of rs = c.in_ok-heads.ensures.heads ∙ heads_are c.args.image.now.code.records.items in
    let count : c.len.result ≡ length (heads_of rs) = omega (arith, c.len.ensures, c.in_ok-heads.heads.ok, ap length heads) in
    let first = field_then_as _ _ _ _ _ (ap (λ n. spelled_four n) count) c.in_ok-expect_four.ensures in
    passes_so c.expect_heads.result _ _ _ (first ∙ sym (ap (λ cs. all_expected_at (flat_map (groups_fields rs) cs) (left_of c.expect_four.new.reader)) (c.as_slice.ensures.value ∙ heads))) c.expect_heads.ensures
