use Rattle.std.proofs.Common.{◌≡◌, map, Some}
use Rattle.lp_sig.specs.Holding.{type_done}
use Rattle.lp_sig.proofs.expand.types_at.Given as goal

abbrev pub invariant-loop-place : goal.invariant-loop-place
invariant-loop-place l = map (type_done l.done) l.yielded ≡ map (λ t. Some t) l.types.items
