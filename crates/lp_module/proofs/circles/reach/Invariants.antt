use Rattle.std.proofs.Common.{◌-◌, length}
use Rattle.lp_module.specs.Searching.{ways_in, IsMarked, IsFound, AreClosed}
use Rattle.lp_module.proofs.circles.reach.Given as goal

abbrev pub invariant-found : goal.invariant-found
invariant-found l =
    IsFound (ways_in l.ways.items) l.from l.marks.items l.found.items ×
    AreClosed (ways_in l.ways.items) l.marks.items l.found.items l.next ×
    IsMarked l.marks.items l.from

abbrev pub decreases-found : goal.decreases-found
decreases-found l = length l.ways.items - l.next
