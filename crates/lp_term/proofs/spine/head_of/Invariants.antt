use Rattle.std.proofs.Common.{◌≡◌, ◌<◌, length}
use Rattle.lp_term.specs.Nodes.{tree}
use Rattle.lp_term.specs.Spine.{head}
use Rattle.lp_term.specs.Walk.{size}
use Rattle.lp_term.proofs.spine.head_of.Given as goal

abbrev pub invariant-down : goal.invariant-down
invariant-down l = record {
  within : l.fn.term.0 < length l.bank.terms → l.top.0 < length l.bank.terms;
  tree : head (tree l.bank l.top.0) ≡ head (tree l.bank l.fn.term.0);
}

abbrev pub decreases-down : goal.decreases-down
decreases-down l = size (tree l.bank l.top.0)
