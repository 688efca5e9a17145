use Rattle.std.proofs.Common.{◌≡◌, ◌∷◌, length, map, sym, ap, ◌∙◌, arith}
use Rattle.std.specs.List.{flat_map}
use Rattle.std.proofs.lemmas.List.{length-map}
use Rattle.std.proofs.lemmas.Result.{err_from_is_err_and}
use Rattle.lp_bytes.specs.Numbers.{spelled_four}
use Rattle.lp_bytes.specs.Reading.{left_of}
use Rattle.lp_bytes.proofs.Looping.{fails_so}
use Rattle.lp_code.specs.Groups.{looked_key}
use Rattle.lp_object.specs.Plain.{plain_record}
use Rattle.lp_object.specs.Reading.{all_expected_at}
use Rattle.lp_object.specs.Tables.{group_of, group_fields, keys_of}
use Rattle.lp_object.proofs.Grouped.{keys_are}
use Rattle.lp_object.proofs.Expecting.{field_then_as, field_stops_as, passes_so}
use Rattle.lp_object.proofs.tables.expect_groups.Goals as goal

pub returns-in_err-expect_four : goal.returns-in_err-expect_four
returns-in_err-expect_four c = let p = err_from_is_err_and c.from_residual.result c.from_residual.ensures.1 in
    rw (p.1, p.2) (field_stops_as _ _ _ _ _ (ap (λ n. spelled_four n) c.from.ensures) c.in_err-expect_four.ensures)

pub returns-in_err-expect_four-2 : goal.returns-in_err-expect_four-2
returns-in_err-expect_four-2 c =
    let rs = map plain_record c.args.image.now.code.records.items in
    let fs = flat_map (λ k. group_fields (group_of rs c.args.constant k) k) (keys_of rs c.args.constant) in
    let keys : map looked_key c.in_ok-keys.keys.items ≡ keys_of rs c.args.constant = c.in_ok-keys.ensures.keys ∙ keys_are c.args.image.now.code.records.items c.args.constant in
    let count : c.len.result ≡ length (keys_of rs c.args.constant) = omega (arith, c.len.ensures, c.in_ok-keys.keys.ok, length-map c.in_ok-keys.keys.items looked_key, ap length keys) in
    let p = err_from_is_err_and c.from_residual-in_err-expect_four-2.result c.from_residual-in_err-expect_four-2.ensures.1 in
    rw (p.1, p.2)
    (fails_so _ (all_expected_at (spelled_four (length (keys_of rs c.args.constant)) ∷ fs) (left_of c.expect_four.new.reader)) _ (field_then_as _ _ _ _ _ (ap (λ n. spelled_four n) c.from.ensures) c.in_ok-expect_four.ensures)
    (field_stops_as _ _ _ _ _ (ap (λ n. spelled_four n) count) c.in_err-expect_four-2.ensures))

pub returns : goal.returns
returns c =
    let rs = map plain_record c.args.image.now.code.records.items in
    let keys : map looked_key c.in_ok-keys.keys.items ≡ keys_of rs c.args.constant = c.in_ok-keys.ensures.keys ∙ keys_are c.args.image.now.code.records.items c.args.constant in
    let count : c.len.result ≡ length (keys_of rs c.args.constant) = omega (arith, c.len.ensures, c.in_ok-keys.keys.ok, length-map c.in_ok-keys.keys.items looked_key, ap length keys) in
    let first = field_then_as _ _ _ _ _ (ap (λ n. spelled_four n) c.from.ensures) c.in_ok-expect_four.ensures in
    let second = field_then_as _ _ _ _ _ (ap (λ n. spelled_four n) count) c.in_ok-expect_four-2.ensures in
    passes_so c.expect_keyed.result _ _ _
    (first ∙ second ∙ sym (ap (λ ks. all_expected_at (flat_map (λ k. group_fields (group_of rs c.args.constant k) k) ks) (left_of c.expect_four-2.new.reader)) (ap (map looked_key) c.as_slice.ensures.value ∙ keys))) c.expect_keyed.ensures
