use Rattle.std.proofs.Common.{◌≡◌, map, take, Some}
use Rattle.lp_infer.specs.Noted.{known_at}
use Rattle.lp_infer.proofs.annotation.types_at.Given as goal

abbrev pub invariant-loop-place : goal.invariant-loop-place
invariant-loop-place l = map (known_at l.done) (take l.place-index l.places) ≡ map (λ t. Some t) l.types.items
