use Rattle.std.proofs.Common.{◌≡◌, map, take}
use Rattle.lp_build.proofs.objects.copies_of.Given as goal

abbrev pub invariant-loop-name : goal.invariant-loop-name
invariant-loop-name l = map (λ u. u.items) l.copies.items ≡ map (λ u. u.items) (take l.name-index l.names)
