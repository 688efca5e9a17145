use Rattle.lp_term.proofs.Trees.{extends-trans}
use Rattle.lp_prove.specs.Within.{IsNodeIn}
use Rattle.lp_prove.proofs.Growing.{node_later, one_more}
use Rattle.lp_prove.proofs.certifying.Copies.nodes.Goals as goal

pub nodes-preserved : goal.nodes-preserved
nodes-preserved c = record {
  kept = extends-trans c.args.to.now c.nodes.to c.node.new.to c.nodes.invariant.kept c.in_ok-node.ensures.kept;
  within =
      one_more (IsNodeIn c.nodes.to) (IsNodeIn c.node.new.to) (node_later c.nodes.to c.node.new.to c.in_ok-node.ensures.kept) c.nodes.made.items _ c.in_ok-node.node c.nodes.invariant.within c.in_ok-node.ensures.within
      c.in_ok-push.ensures.items;
}
