use Rattle.std.proofs.Common.{◌≡◌, ◌≤◌, ◌-◌, Some, length}
use Rattle.lp_calculus.specs.Convert.{steps}
use Rattle.lp_term.specs.Nodes.{Extends}
use Rattle.lp_model.specs.Pair.{Closing, closed}
use Rattle.lp_model.specs.Look.{weak_step}
use Rattle.lp_pattern.specs.inner.Falling.{look_left}
use Rattle.lp_pattern.specs.Under.{IsReading, under}
use Rattle.lp_pattern.specs.Seen.{at_hand, Stands}
use Rattle.lp_pattern.proofs.look.look.Given as goal

abbrev pub invariant-steps : goal.invariant-steps
invariant-steps l = record {
  kept : Extends l.fn.bank l.bank;
  stands : Stands l.bank l.spine;
  left : l.spine.left ≤ l.fn.limit;
  followed : (c : Closing) → IsReading l.fn.bank l.fn.bindings c → steps weak_step (l.fn.limit - l.spine.left) (under l.fn.bank c l.fn.term) ≡ Some (closed c (at_hand l.bank l.spine));
}

abbrev pub decreases-steps : goal.decreases-steps
decreases-steps l = look_left (length l.bindings.terms.entries) l.spine
