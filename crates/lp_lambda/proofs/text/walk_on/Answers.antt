use Rattle.std.proofs.Common.{refl, arith}
use Rattle.lp_term.proofs.Moves.{nothing}
use Rattle.lp_lambda.proofs.Judging.{less_left, all_done}
use Rattle.lp_lambda.proofs.text.walk_on.Goals as goal

pub returns-in_default-clause-judged : goal.returns-in_default-clause-judged
returns-in_default-clause-judged c =
    let w = c.tasks.walk in
    ((λ e. c.tasks.invariant.back (all_done c.tasks.bank w (nothing w.work.items (omega (arith, c.in_default.ensures.cases.0, w.work.ok))))), (λ h. refl))

pub tasks-smaller : goal.tasks-smaller
tasks-smaller c =
    let w = c.tasks.walk in
    less_left c.tasks.bank w (record { scope = w.scope; work = c.pop.new.self }) c.in-Some.task refl c.in-Some.ensures.items c.tasks.invariant.tasks c.go_on.new.bank c.go_on.new.walk (rw c.if-not-branch.false at c.in_ok-go_on.ensures.leads)
