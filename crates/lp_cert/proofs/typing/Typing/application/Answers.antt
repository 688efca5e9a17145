use Rattle.std.proofs.Common.{refl, arith, ◌-◌, length, slice_index_or, ◌≡◌, ◌∙◌, ◌++◌, ◌∷◌, ap, map, drop}
use Rattle.lp_cert.proofs.Deriving.{read_again, argument_next, arguments_none, application_moves, step_pushed}
use Rattle.lp_cert.specs.inner.Derives.{steps_of, visiting, argument_steps, IsTaskIn}
use Rattle.std.proofs.lemmas.List.Elements.{All-get_or}
use Rattle.lp_lemmas.proofs.Elements.{All_pushed}
use Rattle.lp_term.proofs.Trees.{extends_same}
use Rattle.lp_term.specs.Nodes.{tree}
use Rattle.lp_cert.specs.declared.typing.Task.TheVariants as task
use Rattle.lp_cert.proofs.Keeping.{application_keeps}
use Rattle.lp_cert.proofs.Visiting.{tasks_next}
use Rattle.lp_cert.proofs.typing.Typing.application.Goals as goal

pub loop-at-init : goal.loop-at-init
loop-at-init c = record { constants = refl; eigens = refl; context = refl; stack = refl; pairs = refl; next = refl; tasks = λ now h k. h; steps = λ b. arguments_none b c.args.arguments.now (steps_of b c.args.self.now.tasks.items) (length c.args.arguments.now - 0) (omega arith) }

pub loop-at-preserved : goal.loop-at-preserved
loop-at-preserved c = record {
  constants = c.loop-at.invariant.constants;
  eigens = c.loop-at.invariant.eigens;
  context = c.loop-at.invariant.context;
  stack = c.loop-at.invariant.stack;
  pairs = c.loop-at.invariant.pairs;
  next = c.loop-at.invariant.next;
  tasks = λ now h k.
      tasks_next (IsTaskIn now) c.push-in-loop-at.new.self.items c.push.new.self.items c.loop-at.self.tasks.items
      (slice_index_or c.args.arguments.now (length c.args.arguments.now - 1 - c.loop-at.at) (record { 0 = 0 })) c.in_ok-push.ensures.items
      c.in_ok-push-2.ensures.items (c.loop-at.invariant.tasks now h k) tt
      (All-get_or (λ t. IsTaskIn now (task.Visit t)) c.args.arguments.now (length c.args.arguments.now - 1 - c.loop-at.at) (record { 0 = 0 }) (omega (arith, c.loop-at-test.true)) k);
  steps = λ b. argument_next b c.args.arguments.now c.push-in-loop-at.new.self.items c.push.new.self.items c.loop-at.self.tasks.items
      (steps_of b c.args.self.now.tasks.items) (length c.args.arguments.now - 1 - c.loop-at.at) _ _
      (slice_index_or c.args.arguments.now (length c.args.arguments.now - 1 - c.loop-at.at) (record { 0 = 0 })) c.in_ok-push.ensures.items
      c.in_ok-push-2.ensures.items
      (omega (arith, c.loop-at-test.true)) (read_again c.args.arguments.now (length c.args.arguments.now - 1 - c.loop-at.at) (record { 0 = 0 }) (omega (arith, c.loop-at-test.true))) (omega arith) (omega (arith, c.loop-at-test.true)) (c.loop-at.invariant.steps b);
}

pub returns-clause-moves : goal.returns-clause-moves
returns-clause-moves c = λ e now b g θ T s d.
    let i = c.loop-at.invariant in
    application_moves b θ c.args.self.now c.loop-at.self c.args.arguments.now c.push-2.new.self.items c.args.head _ T i.constants i.eigens i.context i.stack i.pairs (omega (arith, c.loop-at-test.false)) (i.steps b) c.in_ok-push-3.ensures.items s d

pub returns-clause-keeps : goal.returns-clause-keeps
returns-clause-keeps c = λ now y h k.
    let i = c.loop-at.invariant in
    application_keeps now c.args.self.now _ c.args.head c.args.arguments.now y (extends_same now) i.constants i.eigens i.context i.stack i.pairs i.next
    (All_pushed (IsTaskIn now) c.push-2.new.self.items c.loop-at.self.tasks.items (task.Visit c.args.head) c.in_ok-push-3.ensures.items (i.tasks now y.tasks k) h)
    (λ b. step_pushed b c.push-2.new.self.items c.loop-at.self.tasks.items (task.Visit c.args.head) c.in_ok-push-3.ensures.items ∙ ap
    (λ js. visiting (tree b c.args.head.0) ∷ js) (i.steps b ∙ ap (λ n. argument_steps (map (λ t. tree b t.0) (drop n c.args.arguments.now)) ++
    steps_of b c.args.self.now.tasks.items) (let z : length c.args.arguments.now - c.loop-at.at ≡ 0 = omega (arith, c.loop-at-test.false) in z)))
