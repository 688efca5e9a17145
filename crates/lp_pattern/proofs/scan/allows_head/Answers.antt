use Rattle.lp_term.specs.Nodes.{tree}
use Rattle.lp_pattern.specs.Reading.{side_of}
use Rattle.lp_pattern.proofs.Names.{no_eigen}
use Rattle.lp_pattern.proofs.Scannings.{allowed_other}
use Rattle.lp_pattern.proofs.scan.allows_head.Goals as goal

pub returns-in_default : goal.returns-in_default
returns-in_default c =
    allowed_other c.args.bank.now _ _ (side_of c.args.side.now) (tree c.args.bank.now c.args.head.0) c.term_node.result c.term_node.ensures.older c.term_node.ensures.tree (no_eigen c.term_node.result c.in_default.not-Eigen)
