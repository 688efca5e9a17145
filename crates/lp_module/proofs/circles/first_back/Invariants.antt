use Rattle.std.proofs.Common.{List, take}
use Rattle.lp_module.specs.Order.{Way, LeadNowhereBack}
use Rattle.lp_module.specs.Searching.{AreReached}
use Rattle.lp_module.proofs.circles.first_back.Given as goal

abbrev pub invariant-loop-at : goal.invariant-loop-at
invariant-loop-at l = (ways : List (List Way)) → AreReached ways l.reached.items → LeadNowhereBack ways l.home (take l.at l.out.items)
