use Rattle.lp_term.specs.Nodes.{tree}
use Rattle.lp_pattern.proofs.Names.{without_parameter, no_parameter}
use Rattle.lp_pattern.proofs.heads.beside_parameter.Goals as goal

pub returns-in_default-clause-pairs : goal.returns-in_default-clause-pairs
returns-in_default-clause-pairs c = λ θ k.
    without_parameter c.args.bank.now _ _ θ k _ (tree c.args.bank.now c.args.id.0) c.term_node.result c.new.result.items c.new.ensures.items c.term_node.ensures.older c.term_node.ensures.tree
    (no_parameter c.term_node.result c.in_default.not-Param)
