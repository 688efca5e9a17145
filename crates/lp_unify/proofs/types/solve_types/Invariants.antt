use Rattle.std.proofs.Common.{◌≤◌, List, reverse}
use Rattle.lp_model.specs.Types.{TypePair}
use Rattle.lp_unify.specs.Frames.{Goes}
use Rattle.lp_unify.specs.TypeEquations.{ReadPairs}
use Rattle.lp_unify.proofs.TypeRuns.{IsPartlySolved}
use Rattle.lp_unify.proofs.types.solve_types.Given as goal

abbrev pub invariant-pairs : goal.invariant-pairs
invariant-pairs l = record {
  goes : Goes l.fn.store l.store;
  partly : (ps : List TypePair) → ReadPairs l.fn.store (reverse l.initial.todo.items) ps → IsPartlySolved l.fn.store l.store l.initial.round l.round ps (reverse l.todo.items);
  fewer : l.round.units ≤ l.initial.round.units;
}

abbrev pub decreases-pairs : goal.decreases-pairs
decreases-pairs l = l.round.units
