use Rattle.lp_term.specs.Nodes.{tree}
use Rattle.lp_term.proofs.Ways.{one_fits}
use Rattle.lp_term.proofs.carry.substitute.Goals as goal

pub substitute_all-requires-clause-fits : goal.substitute_all-requires-clause-fits
substitute_all-requires-clause-fits c = one_fits (tree c.args.bank.now c.args.value.0) 0 (tree c.args.bank.now c.args.body.0) c.requires.fits
