use Rattle.std.proofs.Common.{◌≡◌, ◌+◌, ◌∷◌, ap, arith, drop, inr}
use Rattle.std.specs.Prelude.{◌⊎◌}
use Rattle.lp_term.proofs.Moves.{passed_up}
use Rattle.lp_term.proofs.Trees.{extends_same, extends-trans}
use Rattle.lp_module.specs.Refusals.{IsUntyped}
use Rattle.lp_module.specs.Sentences.{said}
use Rattle.lp_module.specs.declared.fault.ModuleFault.TheVariants as fault
use Rattle.lp_module.proofs.Typed.{none_before, declared_more, said_more, untyped_here, all_typed, before_later}
use Rattle.lp_module.proofs.sentences.typed_sentences.Goals as goal

pub loop-at-init : goal.loop-at-init
loop-at-init c = (extends_same c.args.bank.now, none_before c.args.signature.now c.args.source.now c.args.text.now.lines.items c.args.bank.now c.new-sentences.result.items c.new-sentences.ensures.items)

pub loop-at-preserved-in-Declares : goal.loop-at-preserved-in-Declares
loop-at-preserved-in-Declares c =
    let lines = c.args.text.now.lines.items in (
      c.loop-at.invariant.0,
      declared_more c.args.signature.now c.args.source.now lines c.loop-at.bank c.loop-at.sentences.items c.loop-at.at c.index-line.result.now (omega (arith, c.loop-at-test.true, c.len-at-end.ensures, c.args.text.now.lines.ok)) c.index-line.ensures
          (ap (λ x. said (x ∷ drop (c.loop-at.at + 1) lines)) c.in-Declares.is) c.loop-at.invariant.1,
    )

pub loop-at-preserved : goal.loop-at-preserved
loop-at-preserved c =
    let lines = c.args.text.now.lines.items in (
      extends-trans c.args.bank.now c.loop-at.bank c.typed_sentence.new.bank c.loop-at.invariant.0 c.in_ok-sentence-in-Says.ensures.kept,
      said_more c.args.signature.now c.args.source.now lines c.typed_sentence.new.bank c.loop-at.sentences.items c.loop-at.at c.index-line.result.now (omega (arith, c.loop-at-test.true, c.len-at-end.ensures, c.args.text.now.lines.ok)) c.index-line.ensures
          c.in-Says.raw c.in_ok-sentence-in-Says.sentence c.push.new.self.items c.in-Says.is c.in_ok-sentence-in-Says.ensures.sentence c.in_ok-push-in-Says.ensures.items
          (before_later c.loop-at.bank c.typed_sentence.new.bank c.in_ok-sentence-in-Says.ensures.kept c.args.signature.now c.args.source.now lines (drop c.loop-at.at lines) c.loop-at.sentences.items c.loop-at.invariant.1),
    )

pub returns-clause-sentences : goal.returns-clause-sentences
returns-clause-sentences c =
    all_typed c.args.signature.now c.args.source.now c.args.text.now.lines.items c.loop-at.bank c.loop-at.sentences.items c.loop-at.at (omega (arith, c.loop-at-test.false, c.len-at-end.ensures, c.args.text.now.lines.ok)) c.loop-at.invariant.1

pub returns-in_err-sentence-in-Says-clause-refused : goal.returns-in_err-sentence-in-Says-clause-refused
returns-in_err-sentence-in-Says-clause-refused c =
    let lines = c.args.text.now.lines.items in
    passed_up c.from_residual.result c.in_err-sentence-in-Says.field-0.0 (λ e. (e ≡ fault.Memory) ⊎ IsUntyped c.args.signature.now c.args.source.now lines e) c.from_residual.ensures.1
    (inr (untyped_here c.args.signature.now c.args.source.now lines c.loop-at.bank c.loop-at.sentences.items c.loop-at.at c.index-line.result.now (omega (arith, c.loop-at-test.true, c.len-at-end.ensures, c.args.text.now.lines.ok)) c.index-line.ensures
    c.in-Says.raw c.in_err-sentence-in-Says.field-0.0 c.in-Says.is c.in_err-sentence-in-Says.ensures.refused c.loop-at.invariant.1))
