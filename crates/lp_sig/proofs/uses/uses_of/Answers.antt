use Rattle.std.proofs.Common.{subst, ◌≡◌, ◌<◌, ◌≤◌, length, get_or, ap, ◌∙◌, take_all}
use Rattle.lp_sig.specs.Abbreviations.{abbreviation_names, uses_in}
use Rattle.lp_sig.proofs.Abbreviating.{nodes_more}
use Rattle.lp_sig.proofs.uses.uses_of.Goals as goal

pub loop-node-preserved : goal.loop-node-preserved
loop-node-preserved c = λ said k.
    let nodes = c.args.raw.now.nodes.items in
    let i = c.loop-node.node-index in
    let same = c.deref-node-items.ensures.value in
    let h : i < length nodes = subst (λ l. i < length l) same c.loop-node-test.true in
    let at : c.node-item.result ≡ get_or nodes i c.node-item.result = c.node-item.is ∙ ap (λ l. get_or l i c.node-item.result) same in
    nodes_more (abbreviation_names said) c.args.source.now nodes i c.node-item.result c.loop-node.uses.items c.add_node.new.uses.items h at (c.loop-node.invariant said k) (c.in_ok-add_node.ensures said k)

pub returns : goal.returns
returns c = λ said k.
    let nodes = c.args.raw.now.nodes.items in
    let i = c.loop-node.node-index in
    let h : length nodes ≤ i = subst (λ l. length l ≤ i) c.deref-node-items.ensures.value c.loop-node-test.false in
    c.loop-node.invariant said k ∙ ap (uses_in (abbreviation_names said) c.args.source.now) (take_all i nodes h)
