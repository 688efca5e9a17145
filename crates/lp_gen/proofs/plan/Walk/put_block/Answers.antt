use Rattle.std.proofs.Common.{◌∙◌, ◌∷◌}
use Rattle.lp_gen.specs.inner.Planning.{due_goals, due_end, todos}
use Rattle.lp_gen.proofs.plan.Walk.put_block.Goals as goal

pub returns-clause-todo : goal.returns-clause-todo
returns-clause-todo c =
    c.in_ok-push_block.ensures.todo ∙ (λ i. due_goals c.args.goals.now ∷ due_end c.args.end (c.in_ok-put.ensures.level i) ∷ todos (c.in_ok-put.ensures.tasks i).items)
