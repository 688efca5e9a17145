use Rattle.std.proofs.Common.{◌≡◌, ◌≤◌, ◌++◌, reverse, drop, length}
use Rattle.lp_show.proofs.spine.push_reversed.Given as goal

abbrev pub invariant-terms : goal.invariant-terms
invariant-terms l = record {
  within : l.left ≤ length l.more;
  items : l.terms.items ≡ l.fn.terms.items ++ reverse (drop l.left l.more);
}

abbrev pub decreases-terms : goal.decreases-terms
decreases-terms l = l.left
