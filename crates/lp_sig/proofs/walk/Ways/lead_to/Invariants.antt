use Rattle.std.proofs.Common.{◌+◌, length, map}
use Rattle.lp_sig.specs.Walking.{waiting}
use Rattle.lp_sig.proofs.Circles.{Closed}
use Rattle.lp_sig.proofs.walk.Ways.lead_to.Given as goal

abbrev pub invariant-places : goal.invariant-places
invariant-places l = Closed (map (λ out. out.items) l.self.ways.items) l.words l.to l.marks.items l.work.items

abbrev pub decreases-places : goal.decreases-places
decreases-places l = length l.work.items + waiting l.marks.items (map (λ out. out.items) l.self.ways.items)
