use Rattle.std.proofs.Common.{◌+◌, ◌*◌, ◌≤◌, ◌∷◌, length, reverse, arith}
use Rattle.lp_plain.specs.inner.Evaluating.{Serves, cost_of}
use Rattle.lp_plain.proofs.Served.{two_serves}
use Rattle.std.proofs.Common.{subst, sym}
use Rattle.lp_plain.specs.inner.Evaluating.{TakesTask}
use Rattle.lp_plain.proofs.arithmetic.take_task.Goals as goal

pub returns-in_ok-end-in-Visit-clause-takes : goal.returns-in_ok-end-in-Visit-clause-takes
returns-in_ok-end-in-Visit-clause-takes c =
    let m = c.args.machine.now in
    let n = c.visit.new.machine in
    subst (λ x. TakesTask m n c.in_ok-end-in-Visit.end x c.args.tasks.now.items c.visit.new.tasks.items c.args.values.now.items
    c.visit.new.values.items) (sym c.in-Visit.is) c.in_ok-end-in-Visit.ensures.takes

pub returns-in_ok-end-in-Two-clause-takes : goal.returns-in_ok-end-in-Two-clause-takes
returns-in_ok-end-in-Two-clause-takes c =
    let m = c.args.machine.now in
    let n = c.operate_on_two.new.machine in
    subst (λ x. TakesTask m n c.in_ok-end-in-Two.end x c.args.tasks.now.items c.args.tasks.now.items c.args.values.now.items
    c.operate_on_two.new.values.items) (sym c.in-Two.is) (c.in_ok-end-in-Two.ensures.takes c.args.tasks.now.items)

pub returns-in_ok-end-in-One-clause-takes : goal.returns-in_ok-end-in-One-clause-takes
returns-in_ok-end-in-One-clause-takes c =
    let m = c.args.machine.now in
    let n = c.operate_on_one.new.machine in
    subst (λ x. TakesTask m n c.in_ok-end-in-One.end x c.args.tasks.now.items c.args.tasks.now.items c.args.values.now.items
    c.operate_on_one.new.values.items) (sym c.in-One.is) (c.in_ok-end-in-One.ensures.takes c.args.tasks.now.items)

pub operate_on_two-requires : goal.operate_on_two-requires
operate_on_two-requires c = (subst (λ x. Serves (x ∷ reverse c.args.tasks.now.items) (length c.args.values.now.items)) c.in-Two.is c.requires).0

pub operate_on_one-requires : goal.operate_on_one-requires
operate_on_one-requires c = (subst (λ x. Serves (x ∷ reverse c.args.tasks.now.items) (length c.args.values.now.items)) c.in-One.is c.requires).0

pub returns-in_ok-end-in-Visit-clause-served : goal.returns-in_ok-end-in-Visit-clause-served
returns-in_ok-end-in-Visit-clause-served c = λ n.
    c.in_ok-end-in-Visit.ensures.served n (subst (λ x. Serves (x ∷ reverse c.args.tasks.now.items) (length c.args.values.now.items)) c.in-Visit.is c.requires)

pub returns-in_ok-end-in-Two-clause-served : goal.returns-in_ok-end-in-Two-clause-served
returns-in_ok-end-in-Two-clause-served c = λ n.
    two_serves (reverse c.args.tasks.now.items) (length c.args.values.now.items) (length c.operate_on_two.new.values.items) (c.in_ok-end-in-Two.ensures.left n)
    (subst (λ x. Serves (x ∷ reverse c.args.tasks.now.items) (length c.args.values.now.items)) c.in-Two.is c.requires).1

pub returns-in_ok-end-in-One-clause-served : goal.returns-in_ok-end-in-One-clause-served
returns-in_ok-end-in-One-clause-served c = λ n.
    subst (Serves (reverse c.args.tasks.now.items)) (sym (c.in_ok-end-in-One.ensures.left n))
    (subst (λ x. Serves (x ∷ reverse c.args.tasks.now.items) (length c.args.values.now.items)) c.in-One.is c.requires).1

pub returns-in_ok-end-in-Visit-clause-more : goal.returns-in_ok-end-in-Visit-clause-more
returns-in_ok-end-in-Visit-clause-more c = λ n.
    subst (λ x. length c.visit.new.tasks.items ≤ length c.args.tasks.now.items + 3 * cost_of x) (sym c.in-Visit.is) (c.in_ok-end-in-Visit.ensures.more n)

pub returns-in_ok-end-in-Two-clause-more : goal.returns-in_ok-end-in-Two-clause-more
returns-in_ok-end-in-Two-clause-more c = λ n. let k = cost_of c.args.task in omega arith

pub returns-in_ok-end-in-One-clause-more : goal.returns-in_ok-end-in-One-clause-more
returns-in_ok-end-in-One-clause-more c = λ n. let k = cost_of c.args.task in omega arith
