use Rattle.std.proofs.Common.{refl, sym, arith}
use Rattle.lp_lemmas.proofs.Lists.{get_read}
use Rattle.lp_term.specs.Nodes.{tree, type_tree}
use Rattle.lp_bytes.proofs.Lengthened.{more_nothing}
use Rattle.lp_cert.specs.Spelling.{spelled_type}
use Rattle.lp_cert.proofs.Waits.{entry_written, entries_written}
use Rattle.lp_cert.proofs.types.write_types.Goals as goal

pub loop-of-init : goal.loop-of-init
loop-of-init c = sym (more_nothing c.args.writer.now)

pub loop-of-preserved : goal.loop-of-preserved
loop-of-preserved c =
    entry_written (λ t. type_tree c.args.bank.now t.0) spelled_type c.args.types.now c.loop-of.of-index _ _ _ _ (get_read c.args.types.now c.args.types.now c.loop-of.of-index _ _ refl (omega (arith, c.loop-of-test.true)) refl)
    c.loop-of.invariant c.in_ok-write_type.ensures

pub returns : goal.returns
returns c = entries_written (λ t. type_tree c.args.bank.now t.0) spelled_type c.args.types.now c.loop-of.of-index _ _ (omega (arith, c.loop-of-test.false)) c.loop-of.invariant
