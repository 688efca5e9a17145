use Rattle.std.proofs.Common.{◌∙◌, arith}
use Rattle.lp_term.specs.Nodes.{tree}
use Rattle.lp_term.specs.Frame.{in_order}
use Rattle.lp_term.proofs.Several.{put_under}
use Rattle.lp_term.proofs.carry.substitute_all.Goals as goal

pub carry-requires : goal.carry-requires
carry-requires c = record { id = c.requires.body; depth = omega (arith, c.term_count-count.ensures.few, c.requires.body); change = (c.requires.given, c.requires.fits) }

pub returns-clause-tree : goal.returns-clause-tree
returns-clause-tree c = c.in_ok-made.ensures.tree ∙ put_under (in_order c.args.bank.now c.args.given.now) 0 (tree c.args.bank.now c.args.body.0)
