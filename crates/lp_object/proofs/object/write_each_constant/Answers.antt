use Rattle.std.proofs.Common.{refl, sym, arith}
use Rattle.lp_lemmas.proofs.Lists.{get_read}
use Rattle.lp_bytes.proofs.Lengthened.{more_nothing}
use Rattle.lp_object.specs.Plain.{plain_object_constant}
use Rattle.lp_object.specs.Files.{spelled_object_constant}
use Rattle.lp_object.proofs.Writes.{entry_written, entries_written}
use Rattle.lp_object.proofs.object.write_each_constant.Goals as goal

pub loop-constant-init : goal.loop-constant-init
loop-constant-init c = sym (more_nothing c.args.writer.now)

pub loop-constant-preserved : goal.loop-constant-preserved
loop-constant-preserved c = entry_written (plain_object_constant c.args.bank.now) spelled_object_constant c.args.constants.now
    c.loop-constant.constant-index _ _ _ _ (get_read c.args.constants.now c.args.constants.now c.loop-constant.constant-index _ _ refl
    (omega (arith, c.loop-constant-test.true)) c.constant-item.is) c.loop-constant.invariant c.in_ok-write_constant.ensures

pub returns : goal.returns
returns c = entries_written (plain_object_constant c.args.bank.now) spelled_object_constant c.args.constants.now c.loop-constant.constant-index _ _ (omega (arith, c.loop-constant-test.false)) c.loop-constant.invariant
