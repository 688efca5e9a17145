use Rattle.std.proofs.Common.{◌≡◌, ◌<◌, length}
use Rattle.lp_term.specs.Nodes.{tree}
use Rattle.lp_term.specs.Spine.{whole}
use Rattle.lp_term.specs.Walk.{size}
use Rattle.lp_term.specs.Within.{AreTermsOf}
use Rattle.lp_term.proofs.spine.spine_of.Given as goal

abbrev pub invariant-down : goal.invariant-down
invariant-down l = record {
  within : l.fn.term.0 < length l.bank.terms → l.head.0 < length l.bank.terms;
  args : AreTermsOf l.bank l.args.items;
  tree : whole l.bank 0 l.head l.args.items ≡ tree l.bank l.fn.term.0;
}

abbrev pub decreases-down : goal.decreases-down
decreases-down l = size (tree l.bank l.head.0)
