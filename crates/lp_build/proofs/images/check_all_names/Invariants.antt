use Rattle.std.proofs.Common.{length, take}
use Rattle.std.specs.Prelude.{All}
use Rattle.lp_build.specs.Limits.{HasFewNames}
use Rattle.lp_build.proofs.images.check_all_names.Given as goal

abbrev pub invariant-loop-at : goal.invariant-loop-at
invariant-loop-at l = All (λ o. HasFewNames (length o.kinds.items) (length o.constants.items)) (take l.at l.objects.items)
