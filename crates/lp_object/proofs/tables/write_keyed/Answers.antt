use Rattle.std.proofs.Common.{map, refl, sym, arith}
use Rattle.lp_lemmas.proofs.Lists.{get_read}
use Rattle.lp_bytes.proofs.Lengthened.{more_nothing}
use Rattle.lp_code.specs.Groups.{looked_key}
use Rattle.lp_object.specs.Plain.{plain_record}
use Rattle.lp_object.specs.Tables.{group_of, spelled_group}
use Rattle.lp_object.proofs.Writes.{entry_written, entries_written}
use Rattle.lp_object.proofs.tables.write_keyed.Goals as goal

pub loop-key-init : goal.loop-key-init
loop-key-init c = sym (more_nothing c.args.writer.now)

pub loop-key-preserved : goal.loop-key-preserved
loop-key-preserved c = entry_written looked_key (λ k. spelled_group (group_of (map plain_record c.args.image.now.code.records.items) c.args.constant
    k) k) c.args.keys.now c.loop-key.key-index _ _ _ _ (get_read c.args.keys.now c.args.keys.now c.loop-key.key-index _ _ refl
    (omega (arith, c.loop-key-test.true)) refl) c.loop-key.invariant c.in_ok-write_keyed_group.ensures

pub returns : goal.returns
returns c = entries_written looked_key (λ k. spelled_group (group_of (map plain_record c.args.image.now.code.records.items) c.args.constant k) k) c.args.keys.now c.loop-key.key-index _ _ (omega (arith, c.loop-key-test.false)) c.loop-key.invariant
