use Rattle.lp_unify.proofs.Frames.{goes_then}
use Rattle.lp_unify.proofs.Entries.{entries_then}
use Rattle.lp_unify.proofs.turns.unify.Goals as goal

pub returns-in_err-take_all-clause-entries : goal.returns-in_err-take_all-clause-entries
returns-in_err-take_all-clause-entries c = entries_then c.args.delayed.now c.take_one.new.delayed c.take_all.new.delayed c.in_ok-take_one.ensures.entries c.in_err-take_all.ensures.entries

pub returns-clause-entries : goal.returns-clause-entries
returns-clause-entries c = entries_then c.args.delayed.now c.take_one.new.delayed c.take_all.new.delayed c.in_ok-take_one.ensures.entries c.in_ok-take_all.ensures.entries
