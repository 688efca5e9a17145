use Rattle.std.proofs.Common.{refl, sym, arith}
use Rattle.lp_lemmas.proofs.Lists.{get_read}
use Rattle.lp_bytes.proofs.Lengthened.{more_nothing}
use Rattle.lp_object.specs.Plain.{plain_record}
use Rattle.lp_object.specs.Spelling.{spelled_record}
use Rattle.lp_object.proofs.Writes.{entry_written, entries_written}
use Rattle.lp_object.proofs.records.write_each_record.Goals as goal

pub loop-next-init : goal.loop-next-init
loop-next-init c = sym (more_nothing c.args.writer.now)

pub loop-next-preserved : goal.loop-next-preserved
loop-next-preserved c = entry_written plain_record (spelled_record c.args.width) c.args.records.now c.loop-next.next-index _ _ _ _
    (get_read c.args.records.now c.args.records.now c.loop-next.next-index _ _ refl (omega (arith, c.loop-next-test.true)) c.next-item.is)
    c.loop-next.invariant c.in_ok-write_record.ensures

pub returns : goal.returns
returns c = entries_written plain_record (spelled_record c.args.width) c.args.records.now c.loop-next.next-index _ _ (omega (arith, c.loop-next-test.false)) c.loop-next.invariant
