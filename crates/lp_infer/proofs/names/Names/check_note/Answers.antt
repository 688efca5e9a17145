use Rattle.std.proofs.Common.{◌≡◌, ◌<◌, ◌≤◌, arith, refl, ◌∙◌, ◌+◌, ap, subst, length, get_or, take}
use Rattle.std.specs.Prelude.{Contains}
use Rattle.lp_sig.specs.Pieces.{spelled}
use Rattle.lp_infer.specs.Names.{words_of, IsNoKind}
use Rattle.lp_infer.specs.Scanning.{Finds}
use Rattle.lp_infer.proofs.Undeclared.{one_more, word_step, arrow_step, no_word, all_words, has_word}
use Rattle.lp_infer.proofs.names.Names.check_note.Goals as goal

pub loop-node-preserved-in_default : goal.loop-node-preserved-in_default
loop-node-preserved-in_default c =
    let nodes = c.args.note.now.nodes.items in
    let h : c.loop-node.node-index < length nodes = subst (λ l. c.loop-node.node-index < length l) c.deref-node-items.ensures.value c.loop-node-test.true in
    let at : c.node-item.result ≡ get_or nodes c.loop-node.node-index c.node-item.result = c.node-item.is ∙ ap (λ l. get_or l c.loop-node.node-index c.node-item.result) c.deref-node-items.ensures.value in
    record {
      found = arrow_step (λ s. IsNoKind c.args.signature.now (spelled c.args.source.now s)) (words_of (take c.loop-node.node-index nodes))
          (words_of (take (c.loop-node.node-index + 1) nodes)) c.args.self.now.fault c.loop-node.self.fault c.loop-node.self.fault
          (one_more nodes c.loop-node.node-index c.node-item.result h at ∙ no_word (words_of (take c.loop-node.node-index nodes)) c.node-item.result
          c.in_default.not-Word) refl c.loop-node.invariant.found;
      bound = c.loop-node.invariant.bound;
    }

pub loop-node-preserved : goal.loop-node-preserved
loop-node-preserved c =
    let nodes = c.args.note.now.nodes.items in
    let h : c.loop-node.node-index < length nodes = subst (λ l. c.loop-node.node-index < length l) c.deref-node-items.ensures.value c.loop-node-test.true in
    let at : c.node-item.result ≡ get_or nodes c.loop-node.node-index c.node-item.result = c.node-item.is ∙ ap (λ l. get_or l c.loop-node.node-index c.node-item.result) c.deref-node-items.ensures.value in
    record {
      found = word_step (λ s. IsNoKind c.args.signature.now (spelled c.args.source.now s)) (words_of (take c.loop-node.node-index nodes))
          (words_of (take (c.loop-node.node-index + 1) nodes)) c.args.self.now.fault c.loop-node.self.fault c.check_word.new.self.fault c.in-Word.spot
          (one_more nodes c.loop-node.node-index c.node-item.result h at ∙ has_word (words_of (take c.loop-node.node-index nodes)) c.node-item.result
          c.in-Word.spot c.in-Word.field-1 c.in-Word.is) c.loop-node.invariant.found c.check_word.ensures.fault;
      bound = c.check_word.ensures.bound ∙ c.loop-node.invariant.bound;
    }

pub returns-clause-fault : goal.returns-clause-fault
returns-clause-fault c =
    subst (λ ws. Finds (λ s. Contains ws s × IsNoKind c.args.signature.now (spelled c.args.source.now s)) c.args.self.now.fault c.loop-node.self.fault)
    (all_words c.args.note.now.nodes.items c.loop-node.node-index (subst (λ l. length l ≤ c.loop-node.node-index) c.deref-node-items.ensures.value (omega (arith, c.loop-node-test.false))))
    c.loop-node.invariant.found
