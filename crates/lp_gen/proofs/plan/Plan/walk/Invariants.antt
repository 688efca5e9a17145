use Rattle.std.proofs.Common.{◌≡◌, ◌+◌}
use Rattle.lp_gen.specs.inner.Sizes.{goal_work}
use Rattle.lp_gen.specs.inner.Recorded.{own_count}
use Rattle.lp_model.specs.Flattened.{goals_of}
use Rattle.lp_gen.specs.inner.Variables.{goals_bind, IsLeveled, HasSpread}
use Rattle.lp_gen.specs.inner.Planning.{todos, body_of, WalkStands, AllCaptured}
use Rattle.lp_gen.proofs.plan.Plan.walk.Given as goal

abbrev pub decreases-tasks : goal.decreases-tasks
decreases-tasks l = goal_work l.walk.tasks.items

abbrev pub invariant-tasks : goal.invariant-tasks
invariant-tasks l =
    WalkStands l.fn.self.due.items l.self.due.items l.fn.self.assumptions.items l.self.assumptions.items (l.fn.due.base + own_count l.fn.due.origin)
    l.walk.level (body_of l.fn.due.origin) l.walk.steps.items
    (todos l.walk.tasks.items)
    × (AllCaptured l.bank l.fn.self.assumptions.items → AllCaptured l.bank l.self.assumptions.items) × (l.self.parts ≡ l.fn.self.parts)
    × (l.walk.base ≡ l.fn.due.base)
    × IsLeveled l.bank l.fn.due.base (l.fn.due.base + own_count l.fn.due.origin) (goals_bind (goals_of l.bank (body_of l.fn.due.origin))) l.walk.level (todos l.walk.tasks.items)
    × HasSpread l.bank l.fn.due l.fn.self.due.items l.self.due.items (todos l.walk.tasks.items)
