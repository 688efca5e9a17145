use Rattle.std.proofs.Common.{ap, ◌∙◌}
use Rattle.lp_sig.specs.Places.{first_place}
use Rattle.lp_sig.proofs.Naming.{word_named, word_passed}
use Rattle.lp_sig.proofs.walk.add_ways.Goals as goal

pub loop-word-preserved-in_default : goal.loop-word-preserved-in_default
loop-word-preserved-in_default c = λ ns has.
    word_passed ns c.args.source.now c.args.words.now c.loop-word.word-index _ c.args.ways.now.items c.loop-word.ways.items c.loop-word-test.true (c.in_default.ensures ∙ has c.spelled_at.result.now ∙ ap (λ n. first_place n ns) c.spelled_at.ensures) (c.loop-word.invariant ns has)

pub loop-word-preserved : goal.loop-word-preserved
loop-word-preserved c = λ ns has.
    word_named ns c.args.source.now c.args.words.now c.loop-word.word-index _ c.args.ways.now.items c.loop-word.ways.items c.push.new.self.items
    c.in-Some.to c.loop-word-test.true (c.in-Some.ensures ∙ has c.spelled_at.result.now ∙ ap (λ n. first_place n ns) c.spelled_at.ensures)
    (c.loop-word.invariant ns has) c.in_ok-push.ensures.items
