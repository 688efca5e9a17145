use Rattle.std.proofs.Common.{length}
use Rattle.lp_term.specs.Nodes.{Extends}
use Rattle.lp_model.specs.Pair.{Closing}
use Rattle.lp_pattern.specs.Stripping.{IsShut}
use Rattle.lp_pattern.specs.Under.{IsReading}
use Rattle.lp_plain.specs.Standings.{OfFree, OfStanding}
use Rattle.lp_plain.specs.declared.openness.Openness.{Openness}
use Rattle.lp_plain.proofs.openness.openness_of_goal.Given as goal

abbrev pub invariant-outwards : goal.invariant-outwards
invariant-outwards l = Extends l.fn.bank l.bank × ((c : Closing) (o : Openness) → IsReading l.fn.bank l.around.bindings.now c → IsShut c →
    OfStanding l.around.table.now.frees.items l.around.standings.now (OfFree l.fn.bank c l.around.scopes.now) l.below o l.standing → OfStanding l.around.table.now.frees.items l.around.standings.now (OfFree l.fn.bank c l.around.scopes.now) (length l.around.standings.now) o l.fn.goals)

abbrev pub decreases-outwards : goal.decreases-outwards
decreases-outwards l = l.below
