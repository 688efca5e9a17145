use Rattle.std.proofs.Common.{refl, sym, ◌∙◌, arith}
use Rattle.lp_words.proofs.Reading.{dash_over, dash_found, dash_on, dash_end}
use Rattle.lp_words.proofs.asked.has_lone_dash.Goals as goal

pub loop-word-init : goal.loop-word-init
loop-word-init c = refl

pub returns-then-eq : goal.returns-then-eq
returns-then-eq c =
    sym (dash_over c.args.words.now c.loop-word.word-index c.word-item.result c.as_str.result.now c.loop-word-test.true c.word-item.is c.as_str.ensures.value (sym c.eq.ensures ∙ c.if-eq.true))
    ∙ c.loop-word.invariant

pub returns-then-eq-2 : goal.returns-then-eq-2
returns-then-eq-2 c =
    sym (dash_found c.args.words.now c.loop-word.word-index c.word-item.result c.as_str.result.now c.loop-word-test.true c.word-item.is c.as_str.ensures.value (sym c.eq.ensures ∙ c.if-eq.false)
    (rw (c.as_str-in-loop-word.ensures.value, ← c.as_str.ensures.value) at (sym c.eq-in-loop-word.ensures ∙ c.if-eq-2.true)))
    ∙ c.loop-word.invariant

pub loop-word-preserved : goal.loop-word-preserved
loop-word-preserved c =
    sym (dash_on c.args.words.now c.loop-word.word-index c.word-item.result c.as_str.result.now c.loop-word-test.true c.word-item.is c.as_str.ensures.value (sym c.eq.ensures ∙ c.if-eq.false)
    (rw (c.as_str-in-loop-word.ensures.value, ← c.as_str.ensures.value) at (sym c.eq-in-loop-word.ensures ∙ c.if-eq-2.false)))
    ∙ c.loop-word.invariant

pub returns : goal.returns
returns c = sym (dash_end c.args.words.now c.loop-word.word-index (omega arith)) ∙ c.loop-word.invariant
