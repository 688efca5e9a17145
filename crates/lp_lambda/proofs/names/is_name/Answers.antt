use Rattle.std.proofs.Common.{length, map, reverse}
use Rattle.lp_term.specs.Nodes.{tree}
use Rattle.lp_lambda.proofs.Naming.{other_name}
use Rattle.lp_lambda.proofs.names.is_name.Goals as goal

pub returns-in_default : goal.returns-in_default
returns-in_default c =
    let b = c.args.bank.now in
    other_name b (length b.types) c.args.term.0 c.term_node.result (tree b c.args.term.0) c.term_node.ensures.older c.term_node.ensures.tree c.in_default.not-Index (reverse c.args.walk.now.scope.items) c.args.variable (map (λ t. tree b t.0) c.args.others.now)
