use Rattle.std.proofs.Common.{subst, ◌≡◌, ◌<◌, ◌≤◌, length, get_or, ap, ◌∙◌, map}
use Rattle.lp_sig.proofs.Abbreviating.{nothing_noted, line_noted, all_noted}
use Rattle.lp_sig.proofs.walk.Ways.note.Goals as goal

pub loop-line-init : goal.loop-line-init
loop-line-init c = λ z k u. nothing_noted (map (λ out. out.items) c.args.self.now.ways.items) z c.args.source.now c.args.text.now.lines.items u

pub loop-line-preserved : goal.loop-line-preserved
loop-line-preserved c = λ z k u.
    let lines = c.args.text.now.lines.items in
    let i = c.loop-line.line-index in
    let same = c.deref-line-items.ensures.value in
    let h : i < length lines = subst (λ l. i < length l) same c.loop-line-test.true in
    let at : c.line-item.result ≡ get_or lines i c.line-item.result = c.line-item.is ∙ ap (λ l. get_or l i c.line-item.result) same in
    line_noted c.args.names.now z c.args.source.now lines i c.line-item.result (map (λ out. out.items) c.loop-line.self.ways.items) (map (λ out. out.items) c.note_line.new.self.ways.items) h at k (c.loop-line.invariant z k u) c.in_ok-note_line.ensures

pub returns : goal.returns
returns c = λ z k u.
    let lines = c.args.text.now.lines.items in
    let i = c.loop-line.line-index in
    let h : length lines ≤ i = subst (λ l. length l ≤ i) c.deref-line-items.ensures.value c.loop-line-test.false in
    all_noted (map (λ out. out.items) c.loop-line.self.ways.items) z c.args.source.now lines i h (c.loop-line.invariant z k u)
