use Rattle.lp_unify.proofs.Frames.{goes_then}
use Rattle.lp_unify.proofs.Entries.{entries_then}
use Rattle.lp_unify.proofs.turns.take_all.Goals as goal

pub returns-in_err-take_one-clause-entries : goal.returns-in_err-take_one-clause-entries
returns-in_err-take_one-clause-entries c = entries_then c.args.delayed.now c.pairs.delayed c.take_one.new.delayed c.pairs.invariant.entries c.in_err-take_one.ensures.entries

pub pairs-preserved : goal.pairs-preserved
pairs-preserved c = record {
  goes = goes_then c.args.store.now c.pairs.store c.take_one.new.store c.pairs.invariant.goes c.in_ok-take_one.ensures.goes;
  entries = entries_then c.args.delayed.now c.pairs.delayed c.take_one.new.delayed c.pairs.invariant.entries c.in_ok-take_one.ensures.entries;
}
