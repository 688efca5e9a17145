use Rattle.std.proofs.Common.{◌∙◌, ◌∷◌}
use Rattle.lp_gen.specs.declared.plan.Step.TheVariants as on
use Rattle.lp_gen.specs.inner.Planning.{due_goals, due_end, todos}
use Rattle.lp_gen.proofs.plan.Walk.put_both.Goals as goal

pub returns-clause-todo : goal.returns-clause-todo
returns-clause-todo c =
    c.in_ok-push_block-2.ensures.todo
    ∙ (λ i. due_goals c.args.left.now ∷ due_end on.Turn (c.in_ok-push_block.ensures.level i) ∷ c.in_ok-push_block.ensures.todo i)
    ∙ (λ i. due_goals c.args.left.now ∷ due_end on.Turn (c.in_ok-put.ensures.level i) ∷ due_goals c.args.right.now ∷ due_end on.EndEither
    (c.in_ok-put.ensures.level i) ∷ todos (c.in_ok-put.ensures.tasks i).items)
