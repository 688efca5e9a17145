use Rattle.std.proofs.Common.{◌≡◌, length}
use Rattle.lp_module.specs.Searching.{ways_in, AreReached}
use Rattle.lp_module.proofs.circles.reach_all.Given as goal

abbrev pub invariant-loop-from : goal.invariant-loop-from
invariant-loop-from l = (length l.reached.items ≡ l.from) × AreReached (ways_in l.ways.items) l.reached.items
