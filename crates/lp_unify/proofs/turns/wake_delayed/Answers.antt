use Rattle.lp_unify.proofs.Frames.{goes_then}
use Rattle.lp_unify.proofs.Entries.{entries_then}
use Rattle.lp_unify.proofs.turns.wake_delayed.Goals as goal

pub returns-in_err-take_up-clause-entries : goal.returns-in_err-take_up-clause-entries
returns-in_err-take_up-clause-entries c = entries_then c.args.delayed.now c.rounds.delayed c.take_up.new.self c.rounds.invariant.entries c.in_err-take_up.ensures.entries

pub returns-in_err-take_all-clause-entries : goal.returns-in_err-take_all-clause-entries
returns-in_err-take_all-clause-entries c =
    entries_then c.args.delayed.now c.take_up.new.self c.take_all.new.delayed (entries_then c.args.delayed.now c.rounds.delayed c.take_up.new.self c.rounds.invariant.entries c.in_ok-take_up.ensures.entries) c.in_err-take_all.ensures.entries

pub rounds-preserved : goal.rounds-preserved
rounds-preserved c = record {
  goes = goes_then c.args.store.now c.rounds.store c.take_all.new.store c.rounds.invariant.goes c.in_ok-take_all.ensures.goes;
  entries = entries_then c.args.delayed.now c.take_up.new.self c.take_all.new.delayed (entries_then c.args.delayed.now c.rounds.delayed c.take_up.new.self c.rounds.invariant.entries c.in_ok-take_up.ensures.entries) c.in_ok-take_all.ensures.entries;
}
