use Rattle.std.proofs.Common.{arith}
use Rattle.lp_term.specs.Nodes.{tree}
use Rattle.lp_term.proofs.Loose.{fits, height_below}
use Rattle.lp_prove.proofs.query.contracted.Goals as goal

pub substitute-requires-clause-fits : goal.substitute-requires-clause-fits
substitute-requires-clause-fits c =
    fits 4294967296 (tree c.args.bank.now c.args.argument.0) (tree c.args.bank.now c.args.body.0) (c.is_known_below.ensures c.if-not-is_known_below.false)
    (omega (arith, height_below c.args.bank.now c.term_count-count.ensures.sound c.args.body.0 c.requires.body, height_below c.args.bank.now c.term_count-count.ensures.sound c.args.argument.0 c.requires.argument, c.term_count-count.ensures.few, c.requires.body, c.requires.argument))
