use Rattle.std.proofs.Common.{◌≡◌, map, Some}
use Rattle.std.specs.Prelude.{slice_get}
use Rattle.lp_sig.proofs.see.types_here.Given as goal

abbrev pub invariant-loop-id : goal.invariant-loop-id
invariant-loop-id l = map (λ t. slice_get l.made t.0) l.yielded ≡ map (λ t. Some t) l.here.items
