use Rattle.std.proofs.Common.{◌+◌, ◌∷◌, reverse, subst, sym, true}
use Rattle.lp_term.specs.Nodes.{tree}
use Rattle.lp_lambda.specs.inner.Walking.{parts_left, scope_of, task_weight, work, Leads}
use Rattle.lp_lambda.proofs.Judging.{visited, left_one}
use Rattle.lp_lambda.proofs.text.go_on.Goals as goal

pub returns-in-Leave-clause-leads : goal.returns-in-Leave-clause-leads
returns-in-Leave-clause-leads c =
    let b = c.args.bank.now in
    let w = c.args.walk.now in
    subst (λ t. Leads b (parts_left b (scope_of w) (t ∷ reverse w.work.items)) (task_weight b t + work b w.work.items) c.leave.new.walk true) (sym c.in-Leave.is)
    (left_one b w c.leave.new.walk c.requires.tasks c.leave.ensures.scope c.leave.ensures.work)

pub returns-in_ok-keeps-in-Visit-clause-leads : goal.returns-in_ok-keeps-in-Visit-clause-leads
returns-in_ok-keeps-in-Visit-clause-leads c =
    let b = c.args.bank.now in
    let w = c.args.walk.now in
    subst (λ t. Leads c.take.new.bank (parts_left b (scope_of w) (t ∷ reverse w.work.items)) (task_weight b t + work b w.work.items) c.take.new.walk c.in_ok-keeps-in-Visit.keeps) (sym c.in-Visit.is)
    (visited b c.take.new.bank c.in-Visit.position (tree b c.in-Visit.part.0) w c.take.new.walk c.in_ok-keeps-in-Visit.keeps c.in_ok-keeps-in-Visit.ensures.taken)
