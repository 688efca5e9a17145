use Rattle.std.proofs.Common.{map, refl, sym, arith}
use Rattle.lp_lemmas.proofs.Lists.{get_read}
use Rattle.lp_bytes.proofs.Lengthened.{more_nothing}
use Rattle.lp_object.specs.Plain.{plain_record}
use Rattle.lp_object.specs.Tables.{spelled_groups}
use Rattle.lp_object.proofs.Writes.{entry_of, entries_of}
use Rattle.lp_object.proofs.tables.write_grouped.Goals as goal

pub loop-constant-init : goal.loop-constant-init
loop-constant-init c = sym (more_nothing c.args.writer.now)

pub loop-constant-preserved : goal.loop-constant-preserved
loop-constant-preserved c = entry_of (spelled_groups (map plain_record c.args.image.now.code.records.items)) c.args.heads.now
    c.loop-constant.constant-index _ _ _ _ (get_read c.args.heads.now c.args.heads.now c.loop-constant.constant-index _ _ refl
    (omega (arith, c.loop-constant-test.true)) refl) c.loop-constant.invariant c.in_ok-write_groups.ensures

pub returns : goal.returns
returns c = entries_of (spelled_groups (map plain_record c.args.image.now.code.records.items)) c.args.heads.now c.loop-constant.constant-index _ _ (omega (arith, c.loop-constant-test.false)) c.loop-constant.invariant
