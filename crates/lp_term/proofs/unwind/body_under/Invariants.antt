use Rattle.std.proofs.Common.{◌≡◌, ◌<◌, ◌≤◌, ◌-◌, length}
use Rattle.lp_term.specs.Nodes.{tree}
use Rattle.lp_term.specs.Spine.{abstractions}
use Rattle.lp_term.proofs.unwind.body_under.Given as goal

abbrev pub invariant-down : goal.invariant-down
invariant-down l = record {
  count : l.count ≤ l.fn.most;
  within : l.body.0 < length l.bank.terms;
  tree : abstractions l.count (tree l.bank l.body.0) ≡ tree l.bank l.fn.term.0;
}

abbrev pub decreases-down : goal.decreases-down
decreases-down l = l.fn.most - l.count
