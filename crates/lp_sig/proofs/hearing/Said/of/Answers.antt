use Rattle.std.proofs.Common.{[], length, ◌<◌, subst, take, take_all, arith}
use Rattle.lp_sig.specs.Modules.{declarations, constant_names_in}
use Rattle.lp_sig.specs.ModuleFaults.{kind_names_in}
use Rattle.lp_sig.specs.Sights.{HasKeys, HasNumbers, signature_words, module_words}
use Rattle.lp_sig.proofs.Sayings.{lines_more, constants_append}
use Rattle.lp_sig.proofs.Refusing.{kinds_append}
use Rattle.lp_sig.proofs.Sights.{signature_words_append, module_words_append}
use Rattle.lp_sig.proofs.hearing.Said.of.Goals as goal

pub loop-at-init : goal.loop-at-init
loop-at-init c = record { signatures = c.new-said.ensures.signatures; modules = c.new-said.ensures.modules; kinds = c.new-said.ensures.kinds; constants = c.new-said.ensures.constants }

pub loop-at-preserved : goal.loop-at-preserved
loop-at-preserved c =
    let text = c.args.source.now in
    let lines = c.args.text.now.lines.items in
    let low : c.loop-at.at < length lines = omega (arith, c.loop-at-test.true, c.len-at-end.ensures, c.args.text.now.lines.ok) in
    record {
      signatures = subst (HasNumbers c.hear_sentence.new.self.accum_sigs) (lines_more (signature_words text) (signature_words_append text) lines c.loop-at.at c.index.result.now [] low c.index.ensures)
          (c.in_ok-hear_sentence.ensures.signatures (signature_words text (declarations (take c.loop-at.at lines))) c.loop-at.invariant.signatures);
      modules = subst (HasNumbers c.hear_sentence.new.self.accumulates) (lines_more (module_words text) (module_words_append text) lines c.loop-at.at c.index.result.now [] low c.index.ensures)
          (c.in_ok-hear_sentence.ensures.modules (module_words text (declarations (take c.loop-at.at lines))) c.loop-at.invariant.modules);
      kinds = subst (HasKeys c.hear_sentence.new.self.kinds) (lines_more (kind_names_in text) (kinds_append text) lines c.loop-at.at c.index.result.now [] low c.index.ensures)
          (c.in_ok-hear_sentence.ensures.kinds (kind_names_in text (declarations (take c.loop-at.at lines))) c.loop-at.invariant.kinds);
      constants = subst (HasKeys c.hear_sentence.new.self.constants) (lines_more (constant_names_in text) (constants_append text) lines c.loop-at.at c.index.result.now [] low c.index.ensures)
          (c.in_ok-hear_sentence.ensures.constants (constant_names_in text (declarations (take c.loop-at.at lines))) c.loop-at.invariant.constants);
    }

pub returns-clause-signatures : goal.returns-clause-signatures
returns-clause-signatures c = subst (λ ls. HasNumbers c.loop-at.said.accum_sigs (signature_words c.args.source.now (declarations ls)))
    (take_all c.loop-at.at c.args.text.now.lines.items (omega (arith, c.loop-at-test.false, c.len-at-end.ensures, c.args.text.now.lines.ok))) c.loop-at.invariant.signatures

pub returns-clause-modules : goal.returns-clause-modules
returns-clause-modules c = subst (λ ls. HasNumbers c.loop-at.said.accumulates (module_words c.args.source.now (declarations ls)))
    (take_all c.loop-at.at c.args.text.now.lines.items (omega (arith, c.loop-at-test.false, c.len-at-end.ensures, c.args.text.now.lines.ok))) c.loop-at.invariant.modules

pub returns-clause-kinds : goal.returns-clause-kinds
returns-clause-kinds c = subst (λ ls. HasKeys c.loop-at.said.kinds (kind_names_in c.args.source.now (declarations ls)))
    (take_all c.loop-at.at c.args.text.now.lines.items (omega (arith, c.loop-at-test.false, c.len-at-end.ensures, c.args.text.now.lines.ok))) c.loop-at.invariant.kinds

pub returns-clause-constants : goal.returns-clause-constants
returns-clause-constants c = subst (λ ls. HasKeys c.loop-at.said.constants (constant_names_in c.args.source.now (declarations ls)))
    (take_all c.loop-at.at c.args.text.now.lines.items (omega (arith, c.loop-at-test.false, c.len-at-end.ensures, c.args.text.now.lines.ok))) c.loop-at.invariant.constants
