use Rattle.lp_unify.specs.Frames.{Goes}
use Rattle.lp_unify.specs.Waits.{KeepsEntries}
use Rattle.lp_unify.proofs.turns.take_all.Given as goal

abbrev pub invariant-pairs : goal.invariant-pairs
invariant-pairs l = record {
  goes : Goes l.fn.store l.store;
  entries : KeepsEntries l.initial.delayed l.delayed;
}
