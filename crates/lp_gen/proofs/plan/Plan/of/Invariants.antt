use Rattle.std.proofs.Common.{◌-◌, ◌≤◌, length}
use Rattle.std.specs.Prelude.{All}
use Rattle.lp_gen.specs.inner.Variables.{OriginFits, DueFits, AreLow}
use Rattle.lp_gen.specs.inner.Planning.{most_of, PlanStands, AllCaptured}
use Rattle.lp_gen.proofs.RecordsCounted.{Counted}
use Rattle.lp_gen.proofs.plan.Plan.of.Given as goal

abbrev pub decreases-parts : goal.decreases-parts
decreases-parts l = 65536 - length l.plan.parts.items

abbrev pub invariant-parts : goal.invariant-parts
invariant-parts l =
    PlanStands l.fn.origin l.plan.due.items l.plan.parts.items l.plan.assumptions.items × AllCaptured l.bank l.plan.assumptions.items × (length l.plan.parts.items ≤ most_of l.fn.origin)
    × Counted l.bank l.fn.origin l.plan.due.items l.plan.parts.items
    × AreLow l.plan.due.items × (OriginFits l.bank l.fn.origin → All (DueFits l.bank) l.plan.due.items)
