use Rattle.std.proofs.Common.{◌∙◌, length}
use Rattle.lp_term.specs.Nodes.{tree}
use Rattle.lp_lambda.proofs.Bodies.{plain_body, put_body, fits_raised}
use Rattle.lp_lambda.proofs.reading.body.Goals as goal

pub shift-requires-clause-raised : goal.shift-requires-clause-raised
shift-requires-clause-raised c = fits_raised c.args.bank.now c.term_count-count.ensures.sound c.args.term.0 c.requires.term c.term_count-count.ensures.few (c.is_known_below.ensures c.if-not-is_known_below.false)

pub returns-clause-tree : goal.returns-clause-tree
returns-clause-tree c =
    let b = c.args.bank.now in
    let t = tree b c.args.term.0 in
    put_body t (tree c.put_applied.new.bank c.in_ok-made.made.0) (tree c.put_index.new.bank c.in_ok-under.under.0) (tree c.put_index.new.bank c.in_ok-variable.variable.0)
    (plain_body b (length b.types) c.args.term.0 c.term_node.result t c.term_node.ensures.older c.term_node.ensures.tree c.in_default.not-Abs)
    (c.in_ok-variable.ensures.kept.same_terms c.in_ok-under.under.0 c.in_ok-under.ensures.within ∙ c.in_ok-under.ensures.tree) c.in_ok-variable.ensures.tree c.in_ok-made.ensures.tree
