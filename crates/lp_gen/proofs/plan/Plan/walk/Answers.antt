use Rattle.std.proofs.Common.{◌≡◌, ◌∙◌, ◌+◌, ap, refl, arith}
use Rattle.std.proofs.lemmas.List.{nil_from_length}
use Rattle.lp_gen.specs.inner.Recorded.{own_count}
use Rattle.lp_gen.specs.inner.Planning.{todos, body_of}
use Rattle.lp_gen.proofs.PlanDone.{walk_ready, walk_on, walk_done}
use Rattle.lp_lemmas.proofs.Results.{passed_up}
use Rattle.lp_model.specs.Flattened.{goals_of}
use Rattle.lp_gen.specs.declared.fault.RecordRefusal.TheVariants as refusal
use Rattle.lp_gen.specs.inner.Variables.{goals_bind, DueFits}
use Rattle.lp_gen.proofs.Leveling.{walk_leveled, walk_fits, spread_begins, leveled_on, spread_task, full_task}
use Rattle.lp_gen.proofs.plan.Plan.walk.Goals as goal

pub tasks-init : goal.tasks-init
tasks-init c = (
  walk_ready c.args.self.now.due.items c.args.self.now.assumptions.items (c.args.due.base + own_count c.args.due.origin) c.in_ok-level.level
      c.new.result.items c.new-2.result.items c.push.new.self.items
      c.body-goals.result (body_of c.args.due.origin) (c.in_ok-level.ensures.sum ∙ ap (λ n. c.args.due.base + n) c.variables-variables.ensures)
      c.new.ensures.items c.new-2.ensures.items c.in_ok-push.ensures.items c.body-goals.ensures,
  λ x. x,
  refl,
  refl,
  walk_leveled c.args.bank.now c.args.due.base c.in_ok-level.level c.args.due.origin c.new-2.result.items c.push.new.self.items c.body-goals.result
      (c.in_ok-level.ensures.sum ∙ ap (λ n. c.args.due.base + n) c.variables-variables.ensures) c.in_ok-level.ensures.near c.new-2.ensures.items c.in_ok-push.ensures.items c.body-goals.ensures,
  spread_begins c.args.bank.now c.args.due c.args.self.now.due.items (todos c.push.new.self.items)
      (walk_fits c.args.bank.now c.args.due.origin c.new-2.result.items c.push.new.self.items c.body-goals.result c.new-2.ensures.items c.in_ok-push.ensures.items c.body-goals.ensures),
)

pub tasks-preserved : goal.tasks-preserved
tasks-preserved c = (
  walk_on c.tasks.self.due.items c.step.new.self.due.items c.tasks.self.assumptions.items c.step.new.self.assumptions.items c.args.self.now.due.items c.args.self.now.assumptions.items
      (c.args.due.base + own_count c.args.due.origin) c.tasks.walk.level c.step.new.walk.level (body_of c.args.due.origin) c.tasks.walk.steps.items
      c.step.new.walk.steps.items c.pop.new.self.items c.tasks.walk.tasks.items
      c.in-Some.task (todos c.step.new.walk.tasks.items) c.in-Some.ensures.items c.tasks.invariant.0 c.in_ok-step.ensures.kept,
  λ x. c.in_ok-step.ensures.captured (c.tasks.invariant.1 x),
  c.in_ok-step.ensures.parts ∙ c.tasks.invariant.2,
  c.in_ok-step.ensures.base ∙ c.tasks.invariant.3,
  leveled_on c.args.bank.now c.tasks.walk.base c.args.due.base (c.args.due.base + own_count c.args.due.origin) (goals_bind (goals_of c.args.bank.now (body_of c.args.due.origin))) c.tasks.walk.level
      c.step.new.walk.level c.pop.new.self.items c.tasks.walk.tasks.items c.in-Some.task (todos c.step.new.walk.tasks.items) c.in-Some.ensures.items c.tasks.invariant.3 c.tasks.invariant.4
      c.in_ok-step.ensures.leveled,
  spread_task c.args.bank.now c.args.due c.args.self.now.due.items c.tasks.self.due.items c.step.new.self.due.items (c.args.due.base + own_count c.args.due.origin)
      (goals_bind (goals_of c.args.bank.now (body_of c.args.due.origin))) c.tasks.walk.level c.pop.new.self.items c.tasks.walk.tasks.items c.in-Some.task (todos c.step.new.walk.tasks.items)
      c.in-Some.ensures.items c.tasks.invariant.4 c.tasks.invariant.5 c.in_ok-step.ensures.dues,
)

pub returns-clause-walked : goal.returns-clause-walked
returns-clause-walked c = (
  (let f = c.in_ok-level.ensures.near in let s = c.in_ok-level.ensures.sum in let v = c.variables-variables.ensures in let r = c.requires.low in omega (arith, f, s, v, r)),
  omega (arith, c.tasks.walk.steps.ok),
  c.tasks.walk.level,
  walk_done c.args.self.now.due.items c.tasks.self.due.items c.args.self.now.assumptions.items c.tasks.self.assumptions.items (c.args.due.base + own_count c.args.due.origin) c.tasks.walk.level
      (c.args.due.base + own_count c.args.due.origin) (body_of c.args.due.origin) c.tasks.walk.steps.items c.tasks.walk.tasks.items
      (nil_from_length c.tasks.walk.tasks.items (omega (arith, c.in_default.ensures.cases.0, c.tasks.walk.tasks.ok)))
      refl c.tasks.invariant.0,
)

pub returns-clause-parts : goal.returns-clause-parts
returns-clause-parts c = c.tasks.invariant.2

pub returns-clause-captured : goal.returns-clause-captured
returns-clause-captured c = c.tasks.invariant.1

pub returns-clause-dues : goal.returns-clause-dues
returns-clause-dues c = let s = c.tasks.invariant.5 in (s.more, s.due_are, s.low, λ h. (s.fit h).1)

pub returns-in_err-level-clause-full : goal.returns-in_err-level-clause-full
returns-in_err-level-clause-full c =
    passed_up c.from_residual.result c.in_err-level.field-0.0 (λ e. DueFits c.args.bank.now c.args.due → e ≡ refusal.Memory) c.from_residual.ensures.1
    (λ h. let f = h.0 in let v = c.variables-variables.ensures in c.in_err-level.ensures.full c.requires.low (omega (arith, f, v)))

pub returns-in_err-step-clause-full : goal.returns-in_err-step-clause-full
returns-in_err-step-clause-full c =
    passed_up c.from_residual-in_err-step.result c.in_err-step.field-0.0 (λ e. DueFits c.args.bank.now c.args.due → e ≡ refusal.Memory) c.from_residual-in_err-step.ensures.1
    (full_task c.args.bank.now c.tasks.walk.base c.args.due c.tasks.walk.level c.pop.new.self.items c.tasks.walk.tasks.items c.in-Some.task c.in_err-step.field-0.0 c.in-Some.ensures.items
    c.tasks.invariant.3 c.requires.low c.tasks.invariant.4 c.in_err-step.ensures.full)
