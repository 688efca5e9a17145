use Rattle.lp_term.specs.Nodes.{tree}
use Rattle.lp_pattern.proofs.Names.{no_index, no_eigen}
use Rattle.lp_pattern.proofs.ArgumentForms.{no_name_node}
use Rattle.lp_pattern.proofs.patterns.name_of.Goals as goal

pub returns-in_default : goal.returns-in_default
returns-in_default c =
    no_name_node c.args.bank.now _ _ (tree c.args.bank.now c.args.id.0) c.term_node.result c.term_node.ensures.older c.term_node.ensures.tree (no_index c.term_node.result c.in_default.not-Index)
    (no_eigen c.term_node.result c.in_default.not-Eigen)
