use Rattle.std.proofs.Common.{refl, ◌∙◌, ◌++◌, reverse}
use Rattle.lp_term.proofs.Walking.{on_ok}
use Rattle.lp_pattern.specs.Settling.{visit_tasks}
use Rattle.lp_pattern.proofs.settle.push_application.Goals as goal

pub returns-clause-pushed : goal.returns-clause-pushed
returns-clause-pushed c =
    on_ok c.push_visits.result _ _
    (λ q. (
      record { old = c.args.looked.now.whole; is_new = c.is_other-is_new.result; head = c.args.head; arguments = c.in_ok-arguments.arguments },
      refl,
      c.is_other-is_new.ensures,
      refl,
      c.in_ok-arguments.ensures.items ∙ c.as_slice.ensures.value,
      q ∙ (λ i. c.in_ok-push.ensures.items i ++ reverse (visit_tasks c.args.opened (c.as_slice-2.ensures.value i))),
    ))
    c.push_visits.ensures
