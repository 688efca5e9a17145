use Rattle.lp_unify.specs.Frames.{Goes}
use Rattle.lp_unify.specs.Waits.{KeepsEntries}
use Rattle.lp_unify.proofs.turns.wake_delayed.Given as goal

abbrev pub invariant-rounds : goal.invariant-rounds
invariant-rounds l = record {
  goes : Goes l.fn.store l.store;
  entries : KeepsEntries l.initial.delayed l.delayed;
}
