use Rattle.std.proofs.Common.{◌≡◌, take}
use Rattle.lp_link.specs.Ends.{kind_counts, constant_counts}
use Rattle.lp_link.proofs.linking.counts_of.Given as goal

abbrev pub invariant-loop-at : goal.invariant-loop-at
invariant-loop-at l = (l.counts.hidden_kinds.items ≡ kind_counts (take l.at l.objects)) ×
    (l.counts.hidden_constants.items ≡ constant_counts (take l.at l.objects))
