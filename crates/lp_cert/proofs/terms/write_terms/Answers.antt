use Rattle.std.proofs.Common.{refl, sym, arith}
use Rattle.lp_lemmas.proofs.Lists.{get_read}
use Rattle.lp_term.specs.Nodes.{tree, type_tree}
use Rattle.lp_bytes.proofs.Lengthened.{more_nothing}
use Rattle.lp_cert.specs.Spelling.{spelled_term}
use Rattle.lp_cert.proofs.Waits.{entry_written, entries_written}
use Rattle.lp_cert.proofs.terms.write_terms.Goals as goal

pub loop-term-init : goal.loop-term-init
loop-term-init c = sym (more_nothing c.args.writer.now)

pub loop-term-preserved : goal.loop-term-preserved
loop-term-preserved c =
    entry_written (λ t. tree c.args.bank.now t.0) spelled_term c.args.terms.now c.loop-term.term-index _ _ _ _ (get_read c.args.terms.now c.args.terms.now c.loop-term.term-index _ _ refl (omega (arith, c.loop-term-test.true)) refl)
    c.loop-term.invariant c.in_ok-write_term.ensures

pub returns : goal.returns
returns c = entries_written (λ t. tree c.args.bank.now t.0) spelled_term c.args.terms.now c.loop-term.term-index _ _ (omega (arith, c.loop-term-test.false)) c.loop-term.invariant
