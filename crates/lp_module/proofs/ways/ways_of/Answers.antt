use Rattle.std.proofs.Common.{◌∙◌, sym, ap, arith, ◌++◌}
use Rattle.std.proofs.lemmas.List.{append-nil}
use Rattle.std.specs.Prelude.{None, Some}
use Rattle.lp_sig.specs.Places.{first_place}
use Rattle.lp_module.specs.Words.{ways_of}
use Rattle.lp_module.proofs.Naming.{way_more, ways_done}
use Rattle.lp_module.proofs.ways.ways_of.Goals as goal

pub loop-at-init : goal.loop-at-init
loop-at-init c = λ names has. ap (λ l. l ++ ways_of names c.args.source.now c.in_ok-words.words.items) c.new-ways.ensures.items

pub loop-at-preserved-in-None : goal.loop-at-preserved-in-None
loop-at-preserved-in-None c = λ names has.
    way_more names c.args.source.now c.in_ok-words.words.items c.loop-at.at c.index-word.result.now None c.loop-at.ways.items c.loop-at.ways.items (ways_of names c.args.source.now c.in_ok-words.words.items)
    (omega (arith, c.loop-at-test.true, c.len-at-end.ensures, c.in_ok-words.words.ok)) c.index-word.ensures
    (sym c.in-None.is ∙ c.number.ensures ∙ has c.spelled_at.result.now ∙ ap (λ n. first_place n names) c.spelled_at.ensures) (sym (append-nil c.loop-at.ways.items)) (c.loop-at.invariant names has)

pub loop-at-preserved : goal.loop-at-preserved
loop-at-preserved c = λ names has.
    way_more names c.args.source.now c.in_ok-words.words.items c.loop-at.at c.index-word.result.now (Some c.in-Some.to) c.loop-at.ways.items c.push.new.self.items (ways_of names c.args.source.now c.in_ok-words.words.items)
    (omega (arith, c.loop-at-test.true, c.len-at-end.ensures, c.in_ok-words.words.ok)) c.index-word.ensures
    (sym c.in-Some.is ∙ c.number.ensures ∙ has c.spelled_at.result.now ∙ ap (λ n. first_place n names) c.spelled_at.ensures) c.in_ok-push-in-Some.ensures.items (c.loop-at.invariant names has)

pub returns : goal.returns
returns c = λ names has.
    ways_done names c.args.source.now c.in_ok-words.words.items c.loop-at.at c.loop-at.ways.items (ways_of names c.args.source.now c.in_ok-words.words.items) (omega (arith, c.loop-at-test.false, c.len-at-end.ensures, c.in_ok-words.words.ok)) (c.loop-at.invariant names has) ∙
    ap (ways_of names c.args.source.now) c.in_ok-words.ensures
