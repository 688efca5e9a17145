use Rattle.std.proofs.Common.{◌∙◌, ◌∷◌}
use Rattle.lp_gen.specs.declared.plan.Task.TheVariants as task
use Rattle.lp_gen.specs.inner.Planning.{due_goals, todos}
use Rattle.lp_gen.proofs.PlanDone.{todos_push}
use Rattle.lp_gen.proofs.plan.Walk.put_some.Goals as goal

pub returns-clause-todo : goal.returns-clause-todo
returns-clause-todo c =
    todos_push c.put.new.self.tasks.items c.push.new.self.items (task.Goals c.args.goals) c.in_ok-push.ensures.items
    ∙ (λ i. due_goals c.args.goals.now ∷ todos (c.in_ok-put.ensures.tasks i).items)
