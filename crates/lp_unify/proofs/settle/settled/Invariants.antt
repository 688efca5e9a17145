use Rattle.std.proofs.Common.{◌<◌, length}
use Rattle.lp_unify.specs.Frames.{Stays}
use Rattle.lp_unify.specs.Inside.{IsSettling}
use Rattle.lp_unify.proofs.settle.settled.Given as goal

abbrev pub invariant-tasks : goal.invariant-tasks
invariant-tasks l = record {
  stays : Stays l.fn.store l.store;
  variable : l.side.variable.0 < length l.store.cells;
  work : IsSettling l.store l.side.variable.0 l.work.tasks.items l.work.made.items;
}
