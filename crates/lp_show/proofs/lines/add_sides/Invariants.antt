use Rattle.std.proofs.Common.{◌≡◌, ◌≤◌, ◌-◌, drop, length}
use Rattle.lp_model.specs.Shown.{variables_of_pairs}
use Rattle.lp_show.specs.Sides.{side_trees}
use Rattle.lp_show.proofs.lines.add_sides.Given as goal

abbrev pub invariant-sides : goal.invariant-sides
invariant-sides l = record {
  within : l.at ≤ length l.sides.items;
  same : variables_of_pairs l.seen.keys (side_trees l.bank (drop l.at l.sides.items)) ≡ variables_of_pairs l.fn.seen.keys (side_trees l.bank l.sides.items);
}

abbrev pub decreases-sides : goal.decreases-sides
decreases-sides l = length l.sides.items - l.at
