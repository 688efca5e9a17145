use Rattle.std.proofs.Common.{◌≤◌, List, reverse}
use Rattle.lp_model.specs.Types.{TypePair}
use Rattle.lp_unify.specs.TypeEquations.{ReadPairs}
use Rattle.lp_unify.proofs.TypeComparisons.{IsPartlyCompared}
use Rattle.lp_unify.proofs.types.are_same_types.Given as goal

abbrev pub invariant-pairs : goal.invariant-pairs
invariant-pairs l = record {
  partly : (ps : List TypePair) → ReadPairs l.store (reverse l.initial.todo.items) ps → IsPartlyCompared l.store l.initial.units l.units ps (reverse l.todo.items);
  fewer : l.units ≤ l.initial.units;
}

abbrev pub decreases-pairs : goal.decreases-pairs
decreases-pairs l = l.units
