use Rattle.std.proofs.Common.{length}
use Rattle.lp_term.specs.Nodes.{tree}
use Rattle.lp_lambda.proofs.Naming.{other_index}
use Rattle.lp_lambda.proofs.names.is_index.Goals as goal

pub returns-in_default : goal.returns-in_default
returns-in_default c =
    let b = c.args.bank.now in
    other_index b (length b.types) c.args.term.0 c.term_node.result (tree b c.args.term.0) c.term_node.ensures.older c.term_node.ensures.tree c.in_default.not-Index c.args.index
