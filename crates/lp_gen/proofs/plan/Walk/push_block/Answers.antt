use Rattle.std.proofs.Common.{◌∙◌, ◌∷◌, ap}
use Rattle.lp_gen.specs.declared.plan.Task.TheVariants as task
use Rattle.lp_gen.specs.inner.Planning.{due_goals}
use Rattle.lp_gen.proofs.PlanDone.{todos_push}
use Rattle.lp_gen.proofs.plan.Walk.push_block.Goals as goal

pub returns-clause-todo : goal.returns-clause-todo
returns-clause-todo c =
    todos_push c.push.new.self.items c.push-2.new.self.items (task.Goals c.args.goals) c.in_ok-push-2.ensures.items
    ∙ ap (λ l. due_goals c.args.goals.now ∷ l) (todos_push c.args.self.now.tasks.items c.push.new.self.items (task.End c.args.end c.args.self.now.level) c.in_ok-push.ensures.items)
