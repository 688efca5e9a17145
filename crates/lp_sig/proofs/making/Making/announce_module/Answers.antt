use Rattle.lp_sig.proofs.Announcing.{nothing_announced, definitions_append}
use Rattle.lp_sig.specs.Holding.{KnowsBodies, line_of_module}
use Rattle.lp_sig.specs.Types.{definitions_in}
use Rattle.std.proofs.Common.{◌++◌, ◌∙◌, refl, sym, subst, take, take_all, append-nil, arith, ◌<◌, length, [], ◌∷◌, ◌+◌}
use Rattle.lp_sig.specs.Said.{said_in}
use Rattle.lp_sig.specs.Knowing.{Knows}
use Rattle.lp_sig.specs.Modules.{declarations}
use Rattle.lp_sig.proofs.Spoken.{said_append}
use Rattle.lp_sig.proofs.Sayings.{lines_more, sentence_there}
use Rattle.lp_sig.proofs.making.Making.announce_module.Goals as goal

pub loop-at-init : goal.loop-at-init
loop-at-init c = record { names = λ said k. subst (Knows c.args.self.now.names) (sym (append-nil said)) k; constants = refl; types = refl; operators = refl; uses = refl; bodies = λ said defs k b. nothing_announced c.args.self.now.bodies.types.bank c.args.self.now.bodies.bodies.items said defs c.args.source.now (line_of_module c.args.text.now.lines.items) b }

pub loop-at-preserved : goal.loop-at-preserved
loop-at-preserved c =
    let text = c.args.source.now in
    let lines = c.args.text.now.lines.items in
    record {
      names = λ said k.
          subst (Knows c.announce_sentence.new.self.names) (lines_more (said_in text) (said_append text) lines c.loop-at.at c.index.result.now said
          (omega (arith, c.loop-at-test.true, c.len-at-end.ensures, c.args.text.now.lines.ok)) c.index.ensures)
          (c.in_ok-announce_sentence.ensures.names (said ++ said_in text (declarations (take c.loop-at.at lines))) (c.loop-at.invariant.names said k));
      constants = c.announce_sentence.ensures.constants ∙ c.loop-at.invariant.constants;
      types = c.announce_sentence.ensures.types ∙ c.loop-at.invariant.types;
      operators = c.announce_sentence.ensures.operators ∙ c.loop-at.invariant.operators;
      uses = c.announce_sentence.ensures.uses ∙ c.loop-at.invariant.uses;
      bodies = λ said defs k b.
          let i = c.loop-at.at in
          let new = c.announce_sentence.new.self.bodies in
          let h : c.loop-at.at < length lines = omega (arith, c.loop-at-test.true, c.len-at-end.ensures, c.args.text.now.lines.ok) in
          subst (λ s. KnowsBodies new.types.bank new.bodies.items s (defs ++ definitions_in text (declarations (take (i + 1) lines))) text (line_of_module lines)) (lines_more (said_in text) (said_append text) lines i c.index.result.now said h c.index.ensures)
          (subst (λ d. KnowsBodies new.types.bank new.bodies.items ((said ++ said_in text (declarations (take i lines))) ++ said_in text (declarations (c.index.result.now ∷ []))) d text (line_of_module lines)) (lines_more (definitions_in text) (definitions_append text) lines i c.index.result.now defs h c.index.ensures)
          (c.in_ok-announce_sentence.ensures.bodies (said ++ said_in text (declarations (take i lines))) (defs ++ definitions_in text (declarations (take i lines))) (line_of_module lines) (c.loop-at.invariant.names said k)
          (sentence_there lines i c.index.result.now h c.index.ensures) (c.loop-at.invariant.bodies said defs k b)));
    }

pub returns-clause-names : goal.returns-clause-names
returns-clause-names c = λ said k.
    subst (λ ls. Knows c.loop-at.self.names (said ++ said_in c.args.source.now (declarations ls)))
    (take_all c.loop-at.at c.args.text.now.lines.items (omega (arith, c.loop-at-test.false, c.len-at-end.ensures, c.args.text.now.lines.ok)))
    (c.loop-at.invariant.names said k)

pub returns-clause-bodies : goal.returns-clause-bodies
returns-clause-bodies c = λ said defs k b.
    subst (λ ls. KnowsBodies c.loop-at.self.bodies.types.bank c.loop-at.self.bodies.bodies.items (said ++ said_in c.args.source.now (declarations ls)) (defs ++ definitions_in c.args.source.now (declarations ls)) c.args.source.now (line_of_module c.args.text.now.lines.items))
    (take_all c.loop-at.at c.args.text.now.lines.items (omega (arith, c.loop-at-test.false, c.len-at-end.ensures, c.args.text.now.lines.ok)))
    (c.loop-at.invariant.bodies said defs k b)
