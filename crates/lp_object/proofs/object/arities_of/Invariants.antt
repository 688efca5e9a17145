use Rattle.std.proofs.Common.{◌≡◌, map, take}
use Rattle.lp_object.specs.Plain.{plain_object_kind}
use Rattle.lp_object.proofs.object.arities_of.Given as goal

abbrev pub invariant-loop-kind : goal.invariant-loop-kind
invariant-loop-kind l = l.arities.items ≡ map (λ k. k.arity) (map plain_object_kind (take l.kind-index l.kinds))
