use Rattle.std.proofs.Common.{◌≤◌, ℕ, reverse}
use Rattle.lp_calculus.specs.Types.{Ty}
use Rattle.lp_model.specs.Rule.{compare_types}
use Rattle.lp_pattern.specs.Under.{AreTypes}
use Rattle.lp_pattern.specs.Reading.{type_pairs_of}
use Rattle.lp_pattern.specs.Comparing.{IsRest}
use Rattle.lp_pattern.proofs.types.are_same_types.Given as goal

abbrev pub invariant-pairs : goal.invariant-pairs
invariant-pairs l = record {
  fewer : l.units ≤ l.fn.units;
  rest : (θ : ℕ → Ty) → AreTypes l.bank l.bindings θ → (n : ℕ) → (m : ℕ) × IsRest l.fn.units l.units (compare_types n (type_pairs_of l.bank θ l.fn.pairs)) (compare_types m (type_pairs_of l.bank θ (reverse l.left.items)));
}

abbrev pub decreases-pairs : goal.decreases-pairs
decreases-pairs l = l.units
