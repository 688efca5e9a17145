use Rattle.std.proofs.Common.{subst, ◌≡◌, ◌<◌, ◌≤◌, length, get_or, ap, ◌∙◌, take_all}
use Rattle.lp_sig.specs.Loading.{ways_in, accum_words}
use Rattle.lp_sig.proofs.Naming.{sentence_more}
use Rattle.lp_sig.proofs.walk.ways_of.Goals as goal

pub loop-line-preserved : goal.loop-line-preserved
loop-line-preserved c = λ ns has.
    let lines = c.args.text.now.lines.items in
    let h : c.loop-line.line-index < length lines = subst (λ l. c.loop-line.line-index < length l) c.deref-line-items.ensures.value c.loop-line-test.true in
    let at : c.line-item.result ≡ get_or lines c.loop-line.line-index c.line-item.result = c.line-item.is ∙ ap (λ l. get_or l c.loop-line.line-index c.line-item.result) c.deref-line-items.ensures.value in
    sentence_more ns c.args.source.now lines c.loop-line.line-index c.line-item.result c.loop-line.ways.items c.add_line.new.ways.items h at (c.loop-line.invariant ns has) (c.in_ok-add_line.ensures ns has)

pub returns : goal.returns
returns c = λ ns has.
    let lines = c.args.text.now.lines.items in
    let h : length lines ≤ c.loop-line.line-index = subst (λ l. length l ≤ c.loop-line.line-index) c.deref-line-items.ensures.value c.loop-line-test.false in
    c.loop-line.invariant ns has ∙ ap (λ ls. ways_in ns c.args.source.now (accum_words ls)) (take_all c.loop-line.line-index lines h)
