use Rattle.std.proofs.Common.{◌≡◌, ◌≤◌, take}
use Rattle.lp_link.specs.Ends.{hidden_kinds}
use Rattle.lp_link.proofs.linking.hidden_kinds.Given as goal

abbrev pub invariant-loop-at : goal.invariant-loop-at
invariant-loop-at l = (l.count ≡ hidden_kinds (take l.at l.kinds)) × (l.count ≤ l.at)
