use Rattle.std.proofs.Common.{◌≡◌, ◌≤◌, ◌-◌, ◌++◌, drop, length}
use Rattle.lp_model.specs.Shown.{pair_lines}
use Rattle.lp_show.specs.Named.{all}
use Rattle.lp_show.specs.Sides.{side_trees}
use Rattle.lp_show.specs.Written.{IsIdle}
use Rattle.lp_show.proofs.lines.push_pairs.Given as goal

abbrev pub invariant-pairs : goal.invariant-pairs
invariant-pairs l = record {
  within : l.at ≤ length l.sides.items;
  idle : IsIdle (all l.context.names.now) l.writer;
  text : l.writer.out.items ++ pair_lines (all l.context.names.now) l.context.seen.now.keys (side_trees l.context.bank.now (drop l.at l.sides.items)) ≡
      l.fn.writer.out.items ++ pair_lines (all l.context.names.now) l.context.seen.now.keys (side_trees l.context.bank.now l.sides.items);
}

abbrev pub decreases-pairs : goal.decreases-pairs
decreases-pairs l = length l.sides.items - l.at
