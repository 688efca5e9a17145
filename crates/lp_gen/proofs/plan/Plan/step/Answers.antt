use Rattle.std.proofs.lemmas.List.{nil_from_length}
use Rattle.std.proofs.Common.{◌∷◌}
use Rattle.lp_lemmas.proofs.Results.{passed_up}
use Rattle.lp_gen.specs.inner.Variables.{IsFull}
use Rattle.lp_gen.specs.inner.Planning.{todos, todo_of}
use Rattle.lp_gen.proofs.PlanDone.{task_none, task_first, task_end}
use Rattle.lp_gen.proofs.Leveling.{no_goal_leveled, first_leveled, first_full, first_spreads, no_goal_spreads, end_leveled, end_spreads}
use Rattle.lp_gen.proofs.plan.Plan.step.Goals as goal

pub returns-in_default-clause-kept : goal.returns-in_default-clause-kept
returns-in_default-clause-kept c =
    task_none c.args.self.now.due.items c.args.self.now.assumptions.items c.args.walk.now.level c.args.walk.now.steps.items
    (todos c.args.walk.now.tasks.items) c.args.task c.in-Goals.goals c.in-Goals.is
    (nil_from_length c.in-Goals.goals.now c.in_default.ensures.cases)

pub returns-in_ok-goal-in-Goals-clause-kept : goal.returns-in_ok-goal-in-Goals-clause-kept
returns-in_ok-goal-in-Goals-clause-kept c =
    task_first c.args.self.now.due.items c.goal.new.self.due.items c.args.self.now.assumptions.items c.goal.new.self.assumptions.items
    c.args.walk.now.level c.goal.new.walk.level c.args.walk.now.steps.items
    c.goal.new.walk.steps.items c.args.walk.now.tasks.items c.push.new.self.items (todos c.goal.new.walk.tasks.items) c.args.task c.in-Goals.goals c.in-Some.rest c.in-Some.first.now c.in-Goals.is
    c.in-Some.ensures.cases.0 c.in_ok-push-in-Goals.ensures.items c.in_ok-goal-in-Goals.ensures.kept

pub returns-in_ok-push-in-End-clause-kept : goal.returns-in_ok-push-in-End-clause-kept
returns-in_ok-push-in-End-clause-kept c =
    task_end c.args.self.now.due.items c.args.self.now.assumptions.items c.args.walk.now.level c.args.walk.now.steps.items c.push-in-End.new.self.items (todos c.args.walk.now.tasks.items) c.args.task
    c.in-End.end c.in-End.level c.in-End.is c.in_ok-push-in-End.ensures.items

pub returns-in_default-clause-leveled : goal.returns-in_default-clause-leveled
returns-in_default-clause-leveled c =
    no_goal_leveled c.args.bank.now c.args.walk.now.base c.args.walk.now.level c.args.task c.in-Goals.goals (todos c.args.walk.now.tasks.items) c.in-Goals.is (nil_from_length c.in-Goals.goals.now c.in_default.ensures.cases)

pub returns-in_default-clause-dues : goal.returns-in_default-clause-dues
returns-in_default-clause-dues c =
    no_goal_spreads c.args.bank.now c.args.walk.now.level c.args.self.now.due.items c.args.task c.in-Goals.goals (todos c.args.walk.now.tasks.items) c.in-Goals.is

pub returns-in_ok-goal-in-Goals-clause-leveled : goal.returns-in_ok-goal-in-Goals-clause-leveled
returns-in_ok-goal-in-Goals-clause-leveled c =
    first_leveled c.args.bank.now c.args.walk.now.base c.args.walk.now.base c.args.walk.now.level c.goal.new.walk.level c.args.task c.in-Goals.goals c.in-Some.rest c.in-Some.first.now c.args.walk.now.tasks.items c.push.new.self.items (todos c.goal.new.walk.tasks.items) c.in-Goals.is c.in-Some.ensures.cases.0 c.in_ok-push-in-Goals.ensures.items c.in_ok-goal-in-Goals.ensures.leveled

pub returns-in_ok-goal-in-Goals-clause-dues : goal.returns-in_ok-goal-in-Goals-clause-dues
returns-in_ok-goal-in-Goals-clause-dues c =
    first_spreads c.args.bank.now c.args.walk.now.level c.args.self.now.due.items c.goal.new.self.due.items c.args.task c.in-Goals.goals c.in-Some.rest c.in-Some.first.now c.args.walk.now.tasks.items c.push.new.self.items (todos c.goal.new.walk.tasks.items) c.in-Goals.is c.in-Some.ensures.cases.0 c.in_ok-push-in-Goals.ensures.items c.in_ok-goal-in-Goals.ensures.dues

pub returns-in_err-goal-in-Goals-clause-full : goal.returns-in_err-goal-in-Goals-clause-full
returns-in_err-goal-in-Goals-clause-full c =
    passed_up c.from_residual-in_err-goal-in-Goals.result c.in_err-goal-in-Goals.field-0.0
    (IsFull c.args.bank.now c.args.walk.now.base c.args.walk.now.level (todo_of c.args.task ∷ todos c.args.walk.now.tasks.items))
    c.from_residual-in_err-goal-in-Goals.ensures.1
    (first_full c.args.bank.now c.args.walk.now.base c.args.walk.now.level c.args.task c.in-Goals.goals c.in-Some.rest c.in-Some.first.now c.args.walk.now.tasks.items c.push.new.self.items c.in_err-goal-in-Goals.field-0.0 c.in-Goals.is c.in-Some.ensures.cases.0 c.in_ok-push-in-Goals.ensures.items c.in_err-goal-in-Goals.ensures.full)

pub returns-in_ok-push-in-End-clause-leveled : goal.returns-in_ok-push-in-End-clause-leveled
returns-in_ok-push-in-End-clause-leveled c =
    end_leveled c.args.bank.now c.args.walk.now.base c.args.walk.now.level c.in-End.level c.args.task c.in-End.end (todos c.args.walk.now.tasks.items) c.in-End.is

pub returns-in_ok-push-in-End-clause-dues : goal.returns-in_ok-push-in-End-clause-dues
returns-in_ok-push-in-End-clause-dues c =
    end_spreads c.args.bank.now c.args.walk.now.level c.in-End.level c.args.self.now.due.items c.args.task c.in-End.end (todos c.args.walk.now.tasks.items) c.in-End.is
