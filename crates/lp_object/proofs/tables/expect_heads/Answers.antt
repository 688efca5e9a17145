use Rattle.std.proofs.Common.{map, refl, arith}
use Rattle.std.proofs.lemmas.Result.{err_from_is_err_and}
use Rattle.lp_lemmas.proofs.Lists.{get_read}
use Rattle.lp_object.specs.Plain.{plain_record}
use Rattle.lp_object.specs.Tables.{groups_fields}
use Rattle.lp_object.proofs.Expecting.{entry_passes, entry_fails, entries_passed}
use Rattle.lp_object.proofs.tables.expect_heads.Goals as goal

pub returns-in_err-expect_groups : goal.returns-in_err-expect_groups
returns-in_err-expect_groups c =
    let cs = c.args.heads.now in
    let i = c.loop-constant.constant-index in
    let p = err_from_is_err_and c.from_residual.result c.from_residual.ensures.1 in
    rw (p.1, p.2)
    (entry_fails (groups_fields (map plain_record c.args.image.now.code.records.items)) cs i _ _ _ _ (get_read cs cs i _ _ refl (omega (arith, c.loop-constant-test.true)) refl) c.in_err-expect_groups.ensures c.loop-constant.invariant)

pub loop-constant-preserved : goal.loop-constant-preserved
loop-constant-preserved c =
    let cs = c.args.heads.now in
    let i = c.loop-constant.constant-index in
    entry_passes (groups_fields (map plain_record c.args.image.now.code.records.items)) cs i _ _ _ _ (get_read cs cs i _ _ refl (omega (arith, c.loop-constant-test.true)) refl) c.in_ok-expect_groups.ensures c.loop-constant.invariant

pub returns : goal.returns
returns c = entries_passed (groups_fields (map plain_record c.args.image.now.code.records.items)) c.args.heads.now c.loop-constant.constant-index _ _ c.loop-constant-test.false c.loop-constant.invariant
