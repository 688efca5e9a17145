use Rattle.std.proofs.Common.{List, Bool, drop}
use Rattle.lp_module.specs.inner.Judging.{IsAround}
use Rattle.lp_module.proofs.judge.Parts.is_goal_variable.Given as goal

abbrev pub invariant-loop-step : goal.invariant-loop-step
invariant-loop-step l = (around : List Bool) → IsAround l.self.binders.items l.fn.binder around → IsAround l.self.binders.items l.at (drop l.step around)
