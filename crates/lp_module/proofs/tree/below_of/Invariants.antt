use Rattle.std.proofs.Common.{◌≡◌, take}
use Rattle.std.specs.Prelude.{sum_by}
use Rattle.lp_module.specs.inner.Assembling.{counted, in_all}
use Rattle.lp_module.proofs.tree.below_of.Given as goal

abbrev pub invariant-loop-at : goal.invariant-loop-at
invariant-loop-at l =
    (l.all.kinds ≡ counted (sum_by (in_all (λ h. h.kinds) l.totals.items) (take l.at l.out.items))) × (l.all.constants ≡ counted (sum_by (in_all (λ h. h.constants) l.totals.items) (take l.at l.out.items)))
