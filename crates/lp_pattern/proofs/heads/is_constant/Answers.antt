use Rattle.lp_calculus.specs.Term.{atom, constant}
use Rattle.lp_term.specs.Nodes.{tree}
use Rattle.lp_pattern.proofs.Names.{apart, no_constant}
use Rattle.lp_pattern.proofs.heads.is_constant.Goals as goal

pub returns-in_default : goal.returns-in_default
returns-in_default c = λ ts e.
    apart c.args.bank.now _ _ (atom (constant c.args.c ts)) (tree c.args.bank.now c.args.id.0) c.term_node.result c.term_node.ensures.older c.term_node.ensures.tree (no_constant c.term_node.result c.in_default.not-Const)
