use Rattle.std.proofs.Common.{◌≤◌, ℕ, length, map}
use Rattle.std.specs.Prelude.{All}
use Rattle.lp_term.specs.Nodes.{Extends}
use Rattle.lp_model.specs.Pair.{Closing}
use Rattle.lp_model.specs.Rule.{compare_all}
use Rattle.lp_pattern.specs.Growing.{IsPairOf}
use Rattle.lp_pattern.specs.Under.{IsReading, under}
use Rattle.lp_pattern.specs.Comparing.{IsRest, compare_pairs, pairs_under}
use Rattle.lp_pattern.specs.inner.Falling.{walk_left, level_on_top}
use Rattle.lp_pattern.proofs.compare.are_same.Given as goal

abbrev pub invariant-pairs : goal.invariant-pairs
invariant-pairs l = record {
  fewer : l.units ≤ l.fn.units;
  kept : Extends l.fn.bank l.bank;
  left : All (IsPairOf (length l.bank.terms)) l.left.items;
  rest : (c : Closing) → IsReading l.fn.bank l.bindings c → (n : ℕ) →
      IsRest l.fn.units l.units (compare_all n l.level (map (under l.fn.bank c) l.lefts) (map (under l.fn.bank c) l.rights)) (compare_pairs n (pairs_under l.bank c l.left.items));
}

abbrev pub decreases-pairs : goal.decreases-pairs
decreases-pairs l = walk_left l.units (level_on_top l.left.items)
