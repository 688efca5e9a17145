use Rattle.lp_module.proofs.Fits.{raised_fits}
use Rattle.lp_module.proofs.quantified.applied_to_new.Goals as goal

pub shift-requires-clause-raised : goal.shift-requires-clause-raised
shift-requires-clause-raised c = raised_fits c.args.bank.now c.term_count.ensures.sound c.args.term.0 c.requires.term c.term_count.ensures.few (c.is_known_below.ensures c.if-not-is_known_below.false)
