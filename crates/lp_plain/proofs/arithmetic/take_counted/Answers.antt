use Rattle.lp_plain.proofs.Served.{step_served}
use Rattle.std.proofs.Common.{refl, subst}
use Rattle.lp_term.proofs.Trees.{extends_same}
use Rattle.lp_plain.specs.inner.Evaluating.{IsCounted}
use Rattle.lp_plain.proofs.Evaluations.{deep_step, step_taken}
use Rattle.lp_plain.proofs.arithmetic.take_counted.Goals as goal

pub returns-in-None-clause-bank : goal.returns-in-None-clause-bank
returns-in-None-clause-bank c = record { bank = extends_same c.args.machine.now.bank; same = refl }

pub returns-in-None-clause-goes : goal.returns-in-None-clause-goes
returns-in-None-clause-goes c =
    deep_step c.args.machine.now c.args.task c.args.tasks.now.items c.args.tasks.now.items c.args.values.now.items c.args.values.now.items
    c.args.visited (subst (IsCounted c.args.task c.args.visited) c.in-None.is c.counted.ensures)

pub returns-in_ok-end-in-Some-clause-goes : goal.returns-in_ok-end-in-Some-clause-goes
returns-in_ok-end-in-Some-clause-goes c =
    step_taken c.args.machine.now c.take_task.new.machine c.args.task c.args.tasks.now.items c.take_task.new.tasks.items c.args.values.now.items
    c.take_task.new.values.items c.args.visited c.in-Some.count c.in_ok-end-in-Some.end c.step_of.result c.step_of.ensures
    (subst (IsCounted c.args.task c.args.visited) c.in-Some.is c.counted.ensures) c.in_ok-end-in-Some.ensures.takes

pub returns-in-None-clause-served : goal.returns-in-None-clause-served
returns-in-None-clause-served c = tt

pub returns-in_ok-end-in-Some-clause-served : goal.returns-in_ok-end-in-Some-clause-served
returns-in_ok-end-in-Some-clause-served c =
    let e = c.in_ok-end-in-Some.ensures in
    step_served c.args.task c.args.tasks.now.items c.take_task.new.tasks.items c.take_task.new.values.items c.args.visited c.in-Some.count c.in_ok-end-in-Some.end c.step_of.result c.step_of.ensures
    (subst (IsCounted c.args.task c.args.visited) c.in-Some.is c.counted.ensures) e.served e.more
