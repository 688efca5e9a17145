use Rattle.std.proofs.Common.{◌≡◌, map, take}
use Rattle.lp_link.proofs.places.members_of.Given as goal

abbrev pub invariant-loop-object : goal.invariant-loop-object
invariant-loop-object l = map (λ m. m.object.now) l.members.items ≡ take l.object-index l.objects
