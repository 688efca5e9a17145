use Rattle.std.proofs.Common.{arith, sym}
use Rattle.lp_term.proofs.Trees.{extends_same}
use Rattle.lp_term.specs.Nodes.{tree}
use Rattle.lp_pattern.proofs.Names.{no_index, no_eigen}
use Rattle.lp_pattern.proofs.SettleMoves.{other_head, loose_head}
use Rattle.lp_pattern.proofs.settle.head_in.Goals as goal

pub returns-in_default : goal.returns-in_default
returns-in_default c = record {
  kept = extends_same c.args.bank.now;
  within = c.requires.within;
  head = λ r.
      other_head c.args.bank.now _ _ r c.args.side.now.eigens.items c.args.opened.level c.args.opened.depth (tree c.args.bank.now c.args.head.0) c.term_node.result c.term_node.ensures.older c.term_node.ensures.tree
      (no_index c.term_node.result c.in_default.not-Index) (no_eigen c.term_node.result c.in_default.not-Eigen) c.requires.rigid;
}

pub returns-in_ok-id-in-Index-clause-head : goal.returns-in_ok-id-in-Index-clause-head
returns-in_ok-id-in-Index-clause-head c = λ r.
    loose_head c.args.bank.now c.put_index.new.bank r c.args.side.now.eigens.items c.args.opened.level c.args.opened.depth c.in-Index.place c.args.head c.in_ok-id-in-Index.id (sym c.in-Index.ensures.tree)
    c.in_ok-id-in-Index.ensures.tree (omega (arith, c.if-place-opened.false))
