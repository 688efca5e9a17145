use Rattle.std.proofs.Common.{◌≡◌, ◌<◌, ◌≤◌, length}
use Rattle.std.specs.Prelude.{All}
use Rattle.lp_term.specs.Nodes.{tree}
use Rattle.lp_term.specs.Walk.{size}
use Rattle.lp_term.specs.Spine.{whole}
use Rattle.lp_term.proofs.unwind.unwind.Given as goal

abbrev pub invariant-down : goal.invariant-down
invariant-down l = record {
  same : whole l.bank l.depth l.head l.args.items ≡ whole l.bank l.fn.depth l.fn.head l.fn.args.items;
  depth : l.depth ≤ l.fn.most;
  head : l.head.0 < length l.bank.terms;
  args : All (λ t. t.0 < length l.bank.terms) l.args.items;
}

abbrev pub decreases-down : goal.decreases-down
decreases-down l = size (tree l.bank l.head.0)
