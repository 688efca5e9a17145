use Rattle.std.proofs.Common.{refl, sym, arith}
use Rattle.lp_lemmas.proofs.Lists.{get_read}
use Rattle.lp_bytes.specs.Numbers.{spelled_four}
use Rattle.lp_bytes.proofs.Lengthened.{more_nothing}
use Rattle.lp_object.proofs.Writes.{entry_of, entries_of}
use Rattle.lp_object.proofs.written.write_numbers.Goals as goal

pub loop-number-init : goal.loop-number-init
loop-number-init c = sym (more_nothing c.args.writer.now)

pub loop-number-preserved : goal.loop-number-preserved
loop-number-preserved c = entry_of (λ n. spelled_four n) c.args.numbers.now c.loop-number.number-index _ _ _ _ (get_read c.args.numbers.now c.args.numbers.now c.loop-number.number-index _ _ refl (omega (arith, c.loop-number-test.true)) refl) c.loop-number.invariant c.in_ok-four.ensures

pub returns : goal.returns
returns c = entries_of (λ n. spelled_four n) c.args.numbers.now c.loop-number.number-index _ _ (omega (arith, c.loop-number-test.false)) c.loop-number.invariant
