use Rattle.std.proofs.Common.{◌≤◌, length}
use Rattle.std.specs.Prelude.{min}
use Rattle.lp_verify.specs.inner.Stack.{IsCut}
use Rattle.lp_verify.proofs.registers.Registers.unset_to.Given as goal

abbrev pub decreases-loop-self : goal.decreases-loop-self
decreases-loop-self g l = length l.self.trail.items

abbrev pub invariant-loop-self : goal.invariant-loop-self
invariant-loop-self g l = (min l.fn.height (length l.fn.self.trail.items) ≤ length l.self.trail.items) × IsCut (length l.self.trail.items) l.fn.self l.self
