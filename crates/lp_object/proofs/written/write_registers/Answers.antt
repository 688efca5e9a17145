use Rattle.std.proofs.Common.{refl, sym, arith}
use Rattle.lp_lemmas.proofs.Lists.{get_read}
use Rattle.lp_bytes.specs.Numbers.{spelled_two}
use Rattle.lp_bytes.proofs.Lengthened.{more_nothing}
use Rattle.lp_object.proofs.Writes.{entry_of, entries_of}
use Rattle.lp_object.proofs.written.write_registers.Goals as goal

pub loop-register-init : goal.loop-register-init
loop-register-init c = sym (more_nothing c.args.writer.now)

pub loop-register-preserved : goal.loop-register-preserved
loop-register-preserved c = entry_of (λ n. spelled_two n) c.args.registers.now c.loop-register.register-index _ _ _ _
    (get_read c.args.registers.now c.args.registers.now c.loop-register.register-index _ _ refl (omega (arith, c.loop-register-test.true)) refl)
    c.loop-register.invariant c.in_ok-two.ensures

pub returns : goal.returns
returns c = entries_of (λ n. spelled_two n) c.args.registers.now c.loop-register.register-index _ _ (omega (arith, c.loop-register-test.false)) c.loop-register.invariant
