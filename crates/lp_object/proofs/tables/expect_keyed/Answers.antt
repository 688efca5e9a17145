use Rattle.std.proofs.Common.{map, refl, arith}
use Rattle.std.proofs.lemmas.List.{length-map}
use Rattle.std.proofs.lemmas.Result.{err_from_is_err_and}
use Rattle.lp_lemmas.proofs.Lists.{get_map, get_read}
use Rattle.lp_code.specs.Groups.{looked_key}
use Rattle.lp_object.specs.Plain.{plain_record}
use Rattle.lp_object.specs.Tables.{group_of, group_fields}
use Rattle.lp_object.proofs.Expecting.{entry_passes, entry_fails, entries_passed}
use Rattle.lp_object.proofs.tables.expect_keyed.Goals as goal

pub returns-in_err-expect_keyed_group : goal.returns-in_err-expect_keyed_group
returns-in_err-expect_keyed_group c =
    let ks = c.args.keys.now in
    let i = c.loop-key.key-index in
    let p = err_from_is_err_and c.from_residual.result c.from_residual.ensures.1 in
    rw (p.1, p.2)
    (entry_fails (λ k. group_fields (group_of (map plain_record c.args.image.now.code.records.items) c.args.constant k) k) (map looked_key ks) i _ _ _
    _ (get_map looked_key ks i _ (get_read ks ks i _ _ refl (omega (arith, c.loop-key-test.true)) refl)) c.in_err-expect_keyed_group.ensures
    c.loop-key.invariant)

pub loop-key-preserved : goal.loop-key-preserved
loop-key-preserved c =
    let ks = c.args.keys.now in
    let i = c.loop-key.key-index in
    entry_passes (λ k. group_fields (group_of (map plain_record c.args.image.now.code.records.items) c.args.constant k) k) (map looked_key ks) i _ _ _
    _ (get_map looked_key ks i _ (get_read ks ks i _ _ refl (omega (arith, c.loop-key-test.true)) refl)) c.in_ok-expect_keyed_group.ensures
    c.loop-key.invariant

pub returns : goal.returns
returns c = entries_passed (λ k. group_fields (group_of (map plain_record c.args.image.now.code.records.items) c.args.constant k) k) (map looked_key c.args.keys.now) c.loop-key.key-index _ _ (omega (arith, length-map c.args.keys.now looked_key, c.loop-key-test.false)) c.loop-key.invariant
