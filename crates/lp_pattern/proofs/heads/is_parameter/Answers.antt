use Rattle.lp_calculus.specs.Term.{atom, param}
use Rattle.lp_term.specs.Nodes.{tree}
use Rattle.lp_pattern.proofs.Names.{apart, no_parameter}
use Rattle.lp_pattern.proofs.heads.is_parameter.Goals as goal

pub returns-in_default : goal.returns-in_default
returns-in_default c = λ t.
    apart c.args.bank.now _ _ (atom (param c.args.k t)) (tree c.args.bank.now c.args.id.0) c.term_node.result c.term_node.ensures.older c.term_node.ensures.tree (no_parameter c.term_node.result c.in_default.not-Param)
