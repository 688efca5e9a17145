use Rattle.std.proofs.Common.{◌≡◌, ◌≤◌, take}
use Rattle.lp_link.specs.Ends.{hidden_constants}
use Rattle.lp_link.proofs.linking.hidden_constants.Given as goal

abbrev pub invariant-loop-at : goal.invariant-loop-at
invariant-loop-at l = (l.count ≡ hidden_constants (take l.at l.constants)) × (l.count ≤ l.at)
