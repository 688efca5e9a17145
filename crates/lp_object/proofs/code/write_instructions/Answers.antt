use Rattle.std.proofs.Common.{refl, sym, arith}
use Rattle.lp_lemmas.proofs.Lists.{get_read}
use Rattle.lp_bytes.proofs.Lengthened.{more_nothing}
use Rattle.lp_object.specs.Plain.{plain_instr}
use Rattle.lp_object.specs.Spelling.{spelled_instr}
use Rattle.lp_object.proofs.Writes.{entry_written, entries_written}
use Rattle.lp_object.proofs.code.write_instructions.Goals as goal

pub loop-instr-init : goal.loop-instr-init
loop-instr-init c = sym (more_nothing c.args.writer.now)

pub loop-instr-preserved : goal.loop-instr-preserved
loop-instr-preserved c = entry_written plain_instr (spelled_instr c.args.width) c.args.code.now c.loop-instr.instr-index _ _ _ _
    (get_read c.args.code.now c.args.code.now c.loop-instr.instr-index _ _ refl (omega (arith, c.loop-instr-test.true)) c.instr-item.is)
    c.loop-instr.invariant c.in_ok-write_instruction.ensures

pub returns : goal.returns
returns c = entries_written plain_instr (spelled_instr c.args.width) c.args.code.now c.loop-instr.instr-index _ _ (omega (arith, c.loop-instr-test.false)) c.loop-instr.invariant
