use Rattle.std.proofs.Common.{◌∙◌, ap, arith}
use Rattle.lp_module.specs.Words.{all_ways, ways_of, accumulate_words}
use Rattle.lp_module.proofs.Naming.{text_more, texts_done}
use Rattle.lp_module.proofs.ways.ways_of_all.Goals as goal

pub loop-at-preserved : goal.loop-at-preserved
loop-at-preserved c = λ names has.
    text_more names c.args.sources.now c.args.texts.now c.loop-at.at c.index-sources-at.result c.index-texts-at.result c.in_ok-out.out c.loop-at.ways.items c.push.new.self.items (all_ways names c.args.sources.now c.args.texts.now)
    (omega (arith, c.loop-at-test.true, c.requires)) c.loop-at-test.true c.index-sources-at.is c.index-texts-at.is
    (c.in_ok-out.ensures names has ∙ ap (λ t. ways_of names t (accumulate_words c.index-texts-at.result.lines.items)) c.as_slice.ensures.value) c.in_ok-push.ensures.items (c.loop-at.invariant names has)

pub returns : goal.returns
returns c = λ names has. texts_done names c.args.sources.now c.args.texts.now c.loop-at.at c.loop-at.ways.items (all_ways names c.args.sources.now c.args.texts.now) (omega (arith, c.loop-at-test.false, c.requires)) (c.loop-at.invariant names has)
