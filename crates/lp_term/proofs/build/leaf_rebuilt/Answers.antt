use Rattle.std.proofs.Common.{◌≡◌, ◌∙◌, ap, sym}
use Rattle.lp_term.specs.Nodes.{term_at, node_tree}
use Rattle.lp_term.specs.inner.Reading.{read_of}
use Rattle.lp_term.proofs.Rebuilding.{leaf_same}
use Rattle.lp_term.proofs.build.leaf_rebuilt.Goals as goal

pub returns-then-here-clause-tree : goal.returns-then-here-clause-tree
returns-then-here-clause-tree c =
    let here : term_at c.args.to.now c.args.id.0 ≡ term_at (read_of c.args.here c.args.from.now c.args.to.now) c.args.id.0 = ap (λ h. term_at (read_of h c.args.from.now c.args.to.now) c.args.id.0) (sym c.if-here.true) in
    λ l b. sym c.term_node-node.ensures.tree ∙ ap (node_tree c.args.to.now) (c.term_node-node.ensures.node ∙ here) ∙ leaf_same c.args.to.now b _ l
