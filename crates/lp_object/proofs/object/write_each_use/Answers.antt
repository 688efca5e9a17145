use Rattle.std.proofs.Common.{refl, sym, arith}
use Rattle.lp_lemmas.proofs.Lists.{get_read}
use Rattle.lp_bytes.proofs.Lengthened.{more_nothing}
use Rattle.lp_object.specs.Numbers.{spelled_text}
use Rattle.lp_object.proofs.Writes.{written_so, entry_written, entries_written}
use Rattle.lp_object.proofs.object.write_each_use.Goals as goal

pub loop-name-init : goal.loop-name-init
loop-name-init c = sym (more_nothing c.args.writer.now)

pub loop-name-preserved : goal.loop-name-preserved
loop-name-preserved c = entry_written (λ u. u.items) spelled_text c.args.uses.now c.loop-name.name-index _ _ _ _
    (get_read c.args.uses.now c.args.uses.now c.loop-name.name-index _ _ refl (omega (arith, c.loop-name-test.true)) c.name-item.is)
    c.loop-name.invariant (written_so spelled_text _ _ _ _ c.as_slice.ensures.value c.in_ok-write_text.ensures)

pub returns : goal.returns
returns c = entries_written (λ u. u.items) spelled_text c.args.uses.now c.loop-name.name-index _ _ (omega (arith, c.loop-name-test.false)) c.loop-name.invariant
