use Rattle.lp_calculus.specs.Term.{atom, text}
use Rattle.lp_term.specs.Nodes.{tree}
use Rattle.lp_pattern.proofs.Names.{apart, no_text}
use Rattle.lp_plain.proofs.head.has_bytes.Goals as goal

pub returns-in_default : goal.returns-in_default
returns-in_default c =
    apart c.args.bank.now _ _ (atom (text c.args.bytes.now)) (tree c.args.bank.now c.args.id.0) c.term_node.result c.term_node.ensures.older c.term_node.ensures.tree (no_text c.term_node.result c.in_default.not-Text)
