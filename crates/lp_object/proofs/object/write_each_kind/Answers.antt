use Rattle.std.proofs.Common.{refl, sym, arith}
use Rattle.lp_lemmas.proofs.Lists.{get_read}
use Rattle.lp_bytes.proofs.Lengthened.{more_nothing}
use Rattle.lp_object.specs.Plain.{plain_object_kind}
use Rattle.lp_object.specs.Files.{spelled_object_kind}
use Rattle.lp_object.proofs.Writes.{entry_written, entries_written}
use Rattle.lp_object.proofs.object.write_each_kind.Goals as goal

pub loop-kind-init : goal.loop-kind-init
loop-kind-init c = sym (more_nothing c.args.writer.now)

pub loop-kind-preserved : goal.loop-kind-preserved
loop-kind-preserved c = entry_written plain_object_kind spelled_object_kind c.args.kinds.now c.loop-kind.kind-index _ _ _ _
    (get_read c.args.kinds.now c.args.kinds.now c.loop-kind.kind-index _ _ refl (omega (arith, c.loop-kind-test.true)) c.kind-item.is)
    c.loop-kind.invariant c.in_ok-write_kind.ensures

pub returns : goal.returns
returns c = entries_written plain_object_kind spelled_object_kind c.args.kinds.now c.loop-kind.kind-index _ _ (omega (arith, c.loop-kind-test.false)) c.loop-kind.invariant
