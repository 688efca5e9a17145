use Rattle.std.proofs.Common.{◌∙◌, ap, map, refl}
use Rattle.lp_watch.specs.Crowd.{places}
use Rattle.lp_model.specs.Skeleton.{GoalNote, variable}
use Rattle.lp_plain.specs.declared.form.Form.TheVariants as form
use Rattle.lp_plain.specs.Hearing.{form_name}
use Rattle.lp_plain.specs.Moving.{quiet, taking}
use Rattle.lp_plain.proofs.Hearing.{heard_as, plus_none}
use Rattle.std.proofs.Common.{length, subst, sym}
use Rattle.lp_term.specs.Nodes.{tree}
use Rattle.lp_model.specs.declared.ending.Ending.TheVariants.{Flexible, Steps}
use Rattle.lp_plain.specs.declared.outcome.Turn.{Turn}
use Rattle.lp_plain.specs.AtRunTime.{IsAtomForm}
use Rattle.lp_plain.specs.Calling.{IsFirstIn, LeadsOver}
use Rattle.lp_plain.specs.Forms.{StandsForm}
use Rattle.lp_plain.specs.Moving.{turn_for}
use Rattle.lp_plain.specs.Trying.{all_clauses}
use Rattle.lp_plain.specs.Turns.{IsGoalTurn}
use Rattle.lp_plain.proofs.ArithmeticTurns.{is_turn, order_turn}
use Rattle.lp_plain.proofs.ArithmeticEnds.{assigned_ends, compared_ends}
use Rattle.lp_plain.proofs.AtomMoves.{spent_leads}
use Rattle.lp_plain.proofs.AtomTurns.{bound_same, equal_leads, flexible_leads, other_leads}
use Rattle.lp_plain.proofs.CallArm.{over_next, over_one, written_behind}
use Rattle.lp_plain.proofs.CallForms.{call_turn}
use Rattle.lp_plain.proofs.ProgramKept.{bound_keeps, goals_keep, only_keeps, program_same, program_then, unified_ends}
use Rattle.lp_plain.proofs.StepTaken.{going_behind, step_kept}
use Rattle.lp_plain.proofs.WrittenTurns.{bound_written, only_bound, step_stands, step_written}
use Rattle.std.proofs.Common.{inl, inr}
use Rattle.lp_plain.proofs.AtomTells.{atom_tells}
use Rattle.lp_plain.proofs.Remains.{same_few, step_used}
use Rattle.lp_plain.proofs.atomic.take_atom.Goals as goal

-- with its step and note
pub returns-then-not-take_step-clause-leads : goal.returns-then-not-take_step-clause-leads
returns-then-not-take_step-clause-leads g c = λ qv a raw s h at i sf inside.
    let m = c.args.machine.now in
    let e = c.if-not-take_step.ensures.spent refl in (
      quiet,
      (ap (λ z. z.counts.steps) e.0 ∙ plus_none m.counts.steps, refl),
      λ css pr sw.
          over_one quiet qv (Turn.Ended Steps) c.take_step.new.machine s (λ w ea go enough few P ty. spent_leads qv m a raw s h c.args.place c.args.goal
          c.args.behind at enough P c.take_step.new.machine w ea go c.args.form i e.1)
          tt (all_clauses css),
    )

pub returns-in_ok-unified-in-Equal-clause-leads : goal.returns-in_ok-unified-in-Equal-clause-leads
returns-in_ok-unified-in-Equal-clause-leads g c = λ qv a raw s h at i sf inside.
    let old = places c.args.crowd.now.texts.items (map g.W.Watch.seen c.args.crowd.now.watchers.now.items) in
    let new = places c.tell_goal.new.crowd.texts.items (map g.W.Watch.seen c.tell_goal.new.crowd.watchers.now.items) in
    let m = c.args.machine.now in
    let k = c.take_step.new.machine in
    let o = c.args.behind in
    let b = going_behind k o in
    let t = c.if-not-take_step.ensures in
    let ks = step_kept m k o t.goals t.assumed t.frames t.denied t.branch in
    let st = h.above.done.stands in
    let n = c.equate.new.machine in
    let e = c.in_ok-unified-in-Equal.ensures in
    let y = taking (GoalNote (form_name (form.Equal c.in-Equal.left c.in-Equal.right))) in (
      y,
      (ap (λ z. z.steps) (e.bound.counts ∙ t.counts refl), heard_as c.args.constants.now old new c.args.form _ c.in-Equal.is c.in_ok-tell_goal.ensures.told),
      λ css pr sw.
          let wb = step_written m b o ks t.choices st qv.arity sw in
          subst (λ x. LeadsOver 2 y qv x n s (all_clauses css)) (sym c.turn_of.ensures)
          (over_one y qv (turn_for c.in_ok-unified-in-Equal.unified) n s
          (equal_leads qv m b a raw s h c.args.place c.args.goal o at ks t.choices (t.counts refl) (t.there refl) n e.bound e.residual
          c.in-Equal.left c.in-Equal.right c.in_ok-unified-in-Equal.unified (subst (IsAtomForm m.bank (tree m.bank c.args.goal.0)) c.in-Equal.is i) t.goals.known.bank e.equated)
          (written_behind (turn_for c.in_ok-unified-in-Equal.unified) n qv.arity (bound_written b n e.bound (step_stands m b o ks st) qv.arity wb)) (all_clauses css)),
    )

pub returns-in_ok-turn-in-Is-clause-leads : goal.returns-in_ok-turn-in-Is-clause-leads
returns-in_ok-turn-in-Is-clause-leads g c = λ qv a raw s h at i sf inside.
    let old = places c.args.crowd.now.texts.items (map g.W.Watch.seen c.args.crowd.now.watchers.now.items) in
    let new = places c.tell_goal.new.crowd.texts.items (map g.W.Watch.seen c.tell_goal.new.crowd.watchers.now.items) in
    let m = c.args.machine.now in
    let k = c.take_step.new.machine in
    let o = c.args.behind in
    let b = going_behind k o in
    let t = c.if-not-take_step.ensures in
    let ks = step_kept m k o t.goals t.assumed t.frames t.denied t.branch in
    let st = h.above.done.stands in
    let n = c.assign.new.machine in
    let turn = c.in_ok-turn-in-Is.turn in
    let e = c.in_ok-turn-in-Is.ensures in
    let y = taking (GoalNote (form_name (form.Is c.in-Is.left c.in-Is.right))) in (
      y,
      (ap (λ z. z.steps) (e.bound.counts ∙ t.counts refl), heard_as c.args.constants.now old new c.args.form _ c.in-Is.is c.in_ok-tell_goal.ensures.told),
      λ css pr sw.
          let wb = step_written m b o ks t.choices st qv.arity sw in
          over_next y qv turn n s (all_clauses css) (written_behind turn n qv.arity (bound_written b n e.bound (step_stands m b o ks st) qv.arity wb))
          (is_turn qv m b a raw s h c.args.place c.args.goal o at ks t.choices (t.counts refl) (t.there refl) t.goals.known.bank n
          turn c.in-Is.left c.in-Is.right (subst (IsAtomForm m.bank (tree m.bank c.args.goal.0)) c.in-Is.is i) (subst (StandsForm (length m.bank.terms)) c.in-Is.is sf) e.assigns (all_clauses css)),
    )

pub returns-in_ok-turn-in-Order-clause-leads : goal.returns-in_ok-turn-in-Order-clause-leads
returns-in_ok-turn-in-Order-clause-leads g c = λ qv a raw s h at i sf inside.
    let old = places c.args.crowd.now.texts.items (map g.W.Watch.seen c.args.crowd.now.watchers.now.items) in
    let new = places c.tell_goal.new.crowd.texts.items (map g.W.Watch.seen c.tell_goal.new.crowd.watchers.now.items) in
    let m = c.args.machine.now in
    let k = c.take_step.new.machine in
    let o = c.args.behind in
    let b = going_behind k o in
    let t = c.if-not-take_step.ensures in
    let ks = step_kept m k o t.goals t.assumed t.frames t.denied t.branch in
    let st = h.above.done.stands in
    let n = c.compare.new.machine in
    let turn = c.in_ok-turn-in-Order.turn in
    let e = c.in_ok-turn-in-Order.ensures in
    let y = taking (GoalNote (form_name (form.Order c.in-Order.order c.in-Order.left c.in-Order.right))) in (
      y,
      (ap (λ z. z.counts.steps) e.only.same ∙ ap (λ z. z.steps) (t.counts refl), heard_as c.args.constants.now old new c.args.form _ c.in-Order.is c.in_ok-tell_goal.ensures.told),
      λ css pr sw.
          let wb = step_written m b o ks t.choices st qv.arity sw in
          over_next y qv turn n s (all_clauses css) (written_behind turn n qv.arity (bound_written b n (only_bound b n e.only) (step_stands m b o ks st) qv.arity wb))
          (order_turn qv m b a raw s h c.args.place c.args.goal o at ks t.choices (t.counts refl) (t.there refl) t.goals.known.bank n
          turn c.in-Order.order c.in-Order.left c.in-Order.right (subst (IsAtomForm m.bank (tree m.bank c.args.goal.0)) c.in-Order.is i)
          (subst (StandsForm (length m.bank.terms)) c.in-Order.is sf) e.compares (all_clauses css)),
    )

pub returns-in_ok-turn-in-Call-clause-leads : goal.returns-in_ok-turn-in-Call-clause-leads
returns-in_ok-turn-in-Call-clause-leads g c = λ qv a raw s h at i sf inside.
    let old = places c.args.crowd.now.texts.items (map g.W.Watch.seen c.args.crowd.now.watchers.now.items) in
    let new = places c.tell_goal.new.crowd.texts.items (map g.W.Watch.seen c.tell_goal.new.crowd.watchers.now.items) in
    let m = c.args.machine.now in
    let k = c.take_step.new.machine in
    let o = c.args.behind in
    let t = c.if-not-take_step.ensures in (
      taking (GoalNote (form_name (form.Call c.in-Call.head c.in-Call.first))),
      (c.in_ok-turn-in-Call.ensures.steps ∙ ap (λ z. z.steps) (t.counts refl), heard_as c.args.constants.now old new c.args.form _ c.in-Call.is c.in_ok-tell_goal.ensures.told),
      call_turn qv m a raw s h c.args.place c.args.goal o at c.take_call.new.machine c.in_ok-turn-in-Call.turn (going_behind k o)
          (step_kept m k o t.goals t.assumed t.frames t.denied t.branch) t.choices (t.counts refl) (t.there refl) c.in-Call.head c.in-Call.first
          (subst (IsAtomForm m.bank (tree m.bank c.args.goal.0)) c.in-Call.is i) (subst (IsFirstIn (length m.bank.terms)) c.in-Call.is inside) c.in_ok-turn-in-Call.ensures.leads refl,
    )

pub returns-in-Flexible-clause-leads : goal.returns-in-Flexible-clause-leads
returns-in-Flexible-clause-leads g c = λ qv a raw s h at i sf inside.
    let old = places c.args.crowd.now.texts.items (map g.W.Watch.seen c.args.crowd.now.watchers.now.items) in
    let new = places c.tell_goal.new.crowd.texts.items (map g.W.Watch.seen c.tell_goal.new.crowd.watchers.now.items) in
    let m = c.args.machine.now in
    let k = c.take_step.new.machine in
    let o = c.args.behind in
    let b = going_behind k o in
    let t = c.if-not-take_step.ensures in
    let ks = step_kept m k o t.goals t.assumed t.frames t.denied t.branch in (
      taking (GoalNote variable),
      (ap (λ z. z.steps) (t.counts refl), heard_as c.args.constants.now old new c.args.form _ c.in-Flexible.is c.in_ok-tell_goal.ensures.told),
      λ css pr sw.
          over_one (taking (GoalNote variable)) qv (Turn.Ended Flexible) b s
          (flexible_leads qv m b a raw s h c.args.place c.args.goal o at ks t.choices (t.counts refl) (t.there refl) b (bound_same b) (λ x. x)
          (subst (IsAtomForm m.bank (tree m.bank c.args.goal.0)) c.in-Flexible.is i)) tt (all_clauses css),
    )

pub returns-in-Other-clause-leads : goal.returns-in-Other-clause-leads
returns-in-Other-clause-leads g c = λ qv a raw s h at i sf inside.
    let old = places c.args.crowd.now.texts.items (map g.W.Watch.seen c.args.crowd.now.watchers.now.items) in
    let new = places c.tell_goal.new.crowd.texts.items (map g.W.Watch.seen c.tell_goal.new.crowd.watchers.now.items) in
    let m = c.args.machine.now in
    let k = c.take_step.new.machine in
    let o = c.args.behind in
    let b = going_behind k o in
    let t = c.if-not-take_step.ensures in
    let ks = step_kept m k o t.goals t.assumed t.frames t.denied t.branch in
    let st = h.above.done.stands in (
      taking (GoalNote variable),
      (ap (λ z. z.steps) (t.counts refl), heard_as c.args.constants.now old new c.args.form _ c.in-Other.is c.in_ok-tell_goal.ensures.told),
      λ css pr sw.
          let wb = step_written m b o ks t.choices st qv.arity sw in
          over_one (taking (GoalNote variable)) qv Turn.Back b s
          (other_leads qv m b a raw s h c.args.place c.args.goal o at ks t.choices (t.counts refl) (t.there refl) b (bound_same b) (λ x. x)
          (subst (IsAtomForm m.bank (tree m.bank c.args.goal.0)) c.in-Other.is i)) wb (all_clauses css),
    )

pub returns-then-not-take_step-clause-program : goal.returns-then-not-take_step-clause-program
returns-then-not-take_step-clause-program g c = program_same c.args.machine.now c.take_step.new.machine (c.if-not-take_step.ensures.spent refl).0

pub returns-in_ok-unified-in-Equal-clause-program : goal.returns-in_ok-unified-in-Equal-clause-program
returns-in_ok-unified-in-Equal-clause-program g c =
    let m = c.args.machine.now in
    let k = c.take_step.new.machine in
    let b = going_behind k c.args.behind in
    let t = c.if-not-take_step.ensures in
    let z = goals_keep m k t.goals in
    program_then m b c.equate.new.machine (record { bank = z.bank; table = z.table; index = z.index }) (bound_keeps b c.equate.new.machine c.in_ok-unified-in-Equal.ensures.bound)

pub returns-in_ok-turn-in-Is-clause-program : goal.returns-in_ok-turn-in-Is-clause-program
returns-in_ok-turn-in-Is-clause-program g c =
    let m = c.args.machine.now in
    let k = c.take_step.new.machine in
    let b = going_behind k c.args.behind in
    let t = c.if-not-take_step.ensures in
    let z = goals_keep m k t.goals in
    program_then m b c.assign.new.machine (record { bank = z.bank; table = z.table; index = z.index }) (bound_keeps b c.assign.new.machine c.in_ok-turn-in-Is.ensures.bound)

pub returns-in_ok-turn-in-Order-clause-program : goal.returns-in_ok-turn-in-Order-clause-program
returns-in_ok-turn-in-Order-clause-program g c =
    let m = c.args.machine.now in
    let k = c.take_step.new.machine in
    let b = going_behind k c.args.behind in
    let t = c.if-not-take_step.ensures in
    let z = goals_keep m k t.goals in
    program_then m b c.compare.new.machine (record { bank = z.bank; table = z.table; index = z.index }) (only_keeps b c.compare.new.machine c.in_ok-turn-in-Order.ensures.only)

pub returns-in_ok-turn-in-Call-clause-program : goal.returns-in_ok-turn-in-Call-clause-program
returns-in_ok-turn-in-Call-clause-program g c =
    let m = c.args.machine.now in
    let k = c.take_step.new.machine in
    let b = going_behind k c.args.behind in
    let t = c.if-not-take_step.ensures in
    let z = goals_keep m k t.goals in
    program_then m b c.take_call.new.machine (record { bank = z.bank; table = z.table; index = z.index }) c.in_ok-turn-in-Call.ensures.program

pub returns-in-Flexible-clause-program : goal.returns-in-Flexible-clause-program
returns-in-Flexible-clause-program g c =
    let m = c.args.machine.now in
    let k = c.take_step.new.machine in
    let b = going_behind k c.args.behind in
    let t = c.if-not-take_step.ensures in
    let z = goals_keep m k t.goals in
    record { bank = z.bank; table = z.table; index = z.index }

pub returns-in-Other-clause-program : goal.returns-in-Other-clause-program
returns-in-Other-clause-program g c =
    let m = c.args.machine.now in
    let k = c.take_step.new.machine in
    let b = going_behind k c.args.behind in
    let t = c.if-not-take_step.ensures in
    let z = goals_keep m k t.goals in
    record { bank = z.bank; table = z.table; index = z.index }

pub returns-in_ok-unified-in-Equal-clause-ends : goal.returns-in_ok-unified-in-Equal-clause-ends
returns-in_ok-unified-in-Equal-clause-ends g c = subst IsGoalTurn (sym c.turn_of.ensures) (unified_ends c.in_ok-unified-in-Equal.unified)

pub returns-in_ok-turn-in-Is-clause-ends : goal.returns-in_ok-turn-in-Is-clause-ends
returns-in_ok-turn-in-Is-clause-ends g c = let e = c.in_ok-turn-in-Is.ensures.assigns in assigned_ends e.outcome e.between c.assign.new.machine
    c.in-Is.left c.args.place.level c.in_ok-turn-in-Is.turn e.by

pub returns-in_ok-turn-in-Order-clause-ends : goal.returns-in_ok-turn-in-Order-clause-ends
returns-in_ok-turn-in-Order-clause-ends g c = compared_ends (going_behind c.take_step.new.machine c.args.behind) c.compare.new.machine
    c.in-Order.order c.in-Order.left c.in-Order.right c.in_ok-turn-in-Order.turn c.in_ok-turn-in-Order.ensures.compares

pub returns-in_ok-turn-in-Call-clause-ends : goal.returns-in_ok-turn-in-Call-clause-ends
returns-in_ok-turn-in-Call-clause-ends g c = c.in_ok-turn-in-Call.ensures.ends

pub returns-then-not-take_step-clause-begins : goal.returns-then-not-take_step-clause-begins
returns-then-not-take_step-clause-begins g c = λ qv a raw s h at i. inl refl

pub returns-in_err-tell_goal-clause-begins : goal.returns-in_err-tell_goal-clause-begins
returns-in_err-tell_goal-clause-begins g c = λ qv a raw s h at i.
    let m = c.args.machine.now in
    let t = c.if-not-take_step.ensures in
    let o = c.args.behind in
    inr (
      GoalNote (form_name c.args.form),
      atom_tells qv m (going_behind c.take_step.new.machine o) a raw s h c.args.place c.args.goal o at (step_kept m c.take_step.new.machine o t.goals t.assumed t.frames t.denied t.branch)
          t.choices (t.counts refl) (t.there refl) c.args.form i,
      c.tell_goal.ensures.part,
    )

pub returns-in_err-unified-in-Equal-clause-begins : goal.returns-in_err-unified-in-Equal-clause-begins
returns-in_err-unified-in-Equal-clause-begins g c = λ qv a raw s h at i.
    let m = c.args.machine.now in
    let t = c.if-not-take_step.ensures in
    let o = c.args.behind in
    inr (
      GoalNote (form_name c.args.form),
      atom_tells qv m (going_behind c.take_step.new.machine o) a raw s h c.args.place c.args.goal o at (step_kept m c.take_step.new.machine o t.goals t.assumed t.frames t.denied t.branch)
          t.choices (t.counts refl) (t.there refl) c.args.form i,
      c.tell_goal.ensures.part,
    )

pub returns-in_err-turn-in-Is-clause-begins : goal.returns-in_err-turn-in-Is-clause-begins
returns-in_err-turn-in-Is-clause-begins g c = λ qv a raw s h at i.
    let m = c.args.machine.now in
    let t = c.if-not-take_step.ensures in
    let o = c.args.behind in
    inr (
      GoalNote (form_name c.args.form),
      atom_tells qv m (going_behind c.take_step.new.machine o) a raw s h c.args.place c.args.goal o at (step_kept m c.take_step.new.machine o t.goals t.assumed t.frames t.denied t.branch)
          t.choices (t.counts refl) (t.there refl) c.args.form i,
      c.tell_goal.ensures.part,
    )

pub returns-in_err-turn-in-Order-clause-begins : goal.returns-in_err-turn-in-Order-clause-begins
returns-in_err-turn-in-Order-clause-begins g c = λ qv a raw s h at i.
    let m = c.args.machine.now in
    let t = c.if-not-take_step.ensures in
    let o = c.args.behind in
    inr (
      GoalNote (form_name c.args.form),
      atom_tells qv m (going_behind c.take_step.new.machine o) a raw s h c.args.place c.args.goal o at (step_kept m c.take_step.new.machine o t.goals t.assumed t.frames t.denied t.branch)
          t.choices (t.counts refl) (t.there refl) c.args.form i,
      c.tell_goal.ensures.part,
    )

pub returns-in_err-turn-in-Call-clause-begins : goal.returns-in_err-turn-in-Call-clause-begins
returns-in_err-turn-in-Call-clause-begins g c = λ qv a raw s h at i.
    let m = c.args.machine.now in
    let t = c.if-not-take_step.ensures in
    let o = c.args.behind in
    inr (
      GoalNote (form_name c.args.form),
      atom_tells qv m (going_behind c.take_step.new.machine o) a raw s h c.args.place c.args.goal o at (step_kept m c.take_step.new.machine o t.goals t.assumed t.frames t.denied t.branch)
          t.choices (t.counts refl) (t.there refl) c.args.form i,
      c.tell_goal.ensures.part,
    )

pub returns-in_ok-unified-in-Equal-clause-begins : goal.returns-in_ok-unified-in-Equal-clause-begins
returns-in_ok-unified-in-Equal-clause-begins g c = λ qv a raw s h at i.
    let m = c.args.machine.now in
    let t = c.if-not-take_step.ensures in
    let o = c.args.behind in
    inr (
      GoalNote (form_name c.args.form),
      atom_tells qv m (going_behind c.take_step.new.machine o) a raw s h c.args.place c.args.goal o at (step_kept m c.take_step.new.machine o t.goals t.assumed t.frames t.denied t.branch)
          t.choices (t.counts refl) (t.there refl) c.args.form i,
      c.tell_goal.ensures.part,
    )

pub returns-in_ok-turn-in-Is-clause-begins : goal.returns-in_ok-turn-in-Is-clause-begins
returns-in_ok-turn-in-Is-clause-begins g c = λ qv a raw s h at i.
    let m = c.args.machine.now in
    let t = c.if-not-take_step.ensures in
    let o = c.args.behind in
    inr (
      GoalNote (form_name c.args.form),
      atom_tells qv m (going_behind c.take_step.new.machine o) a raw s h c.args.place c.args.goal o at (step_kept m c.take_step.new.machine o t.goals t.assumed t.frames t.denied t.branch)
          t.choices (t.counts refl) (t.there refl) c.args.form i,
      c.tell_goal.ensures.part,
    )

pub returns-in_ok-turn-in-Order-clause-begins : goal.returns-in_ok-turn-in-Order-clause-begins
returns-in_ok-turn-in-Order-clause-begins g c = λ qv a raw s h at i.
    let m = c.args.machine.now in
    let t = c.if-not-take_step.ensures in
    let o = c.args.behind in
    inr (
      GoalNote (form_name c.args.form),
      atom_tells qv m (going_behind c.take_step.new.machine o) a raw s h c.args.place c.args.goal o at (step_kept m c.take_step.new.machine o t.goals t.assumed t.frames t.denied t.branch)
          t.choices (t.counts refl) (t.there refl) c.args.form i,
      c.tell_goal.ensures.part,
    )

pub returns-in_ok-turn-in-Call-clause-begins : goal.returns-in_ok-turn-in-Call-clause-begins
returns-in_ok-turn-in-Call-clause-begins g c = λ qv a raw s h at i.
    let m = c.args.machine.now in
    let t = c.if-not-take_step.ensures in
    let o = c.args.behind in
    inr (
      GoalNote (form_name c.args.form),
      atom_tells qv m (going_behind c.take_step.new.machine o) a raw s h c.args.place c.args.goal o at (step_kept m c.take_step.new.machine o t.goals t.assumed t.frames t.denied t.branch)
          t.choices (t.counts refl) (t.there refl) c.args.form i,
      c.tell_goal.ensures.part,
    )

pub returns-in-Flexible-clause-begins : goal.returns-in-Flexible-clause-begins
returns-in-Flexible-clause-begins g c = λ qv a raw s h at i.
    let m = c.args.machine.now in
    let t = c.if-not-take_step.ensures in
    let o = c.args.behind in
    inr (
      GoalNote (form_name c.args.form),
      atom_tells qv m (going_behind c.take_step.new.machine o) a raw s h c.args.place c.args.goal o at (step_kept m c.take_step.new.machine o t.goals t.assumed t.frames t.denied t.branch)
          t.choices (t.counts refl) (t.there refl) c.args.form i,
      c.tell_goal.ensures.part,
    )

pub returns-in-Other-clause-begins : goal.returns-in-Other-clause-begins
returns-in-Other-clause-begins g c = λ qv a raw s h at i.
    let m = c.args.machine.now in
    let t = c.if-not-take_step.ensures in
    let o = c.args.behind in
    inr (
      GoalNote (form_name c.args.form),
      atom_tells qv m (going_behind c.take_step.new.machine o) a raw s h c.args.place c.args.goal o at (step_kept m c.take_step.new.machine o t.goals t.assumed t.frames t.denied t.branch)
          t.choices (t.counts refl) (t.there refl) c.args.form i,
      c.tell_goal.ensures.part,
    )

pub returns-then-not-take_step-clause-within : goal.returns-then-not-take_step-clause-within
returns-then-not-take_step-clause-within g c = λ qv a raw s h at i. inl (ap (λ z. z.counts.steps) (c.if-not-take_step.ensures.spent refl).0)

pub returns-in_ok-unified-in-Equal-clause-within : goal.returns-in_ok-unified-in-Equal-clause-within
returns-in_ok-unified-in-Equal-clause-within g c = λ qv a raw s h at i.
    let m = c.args.machine.now in
    let t = c.if-not-take_step.ensures in
    let o = c.args.behind in
    inr (
      ap (λ z. z.steps) (c.in_ok-unified-in-Equal.ensures.bound.counts ∙ t.counts refl),
      GoalNote (form_name c.args.form),
      atom_tells qv m (going_behind c.take_step.new.machine o) a raw s h c.args.place c.args.goal o at (step_kept m c.take_step.new.machine o t.goals t.assumed t.frames t.denied t.branch)
          t.choices (t.counts refl) (t.there refl) c.args.form i,
    )

pub returns-in_ok-turn-in-Is-clause-within : goal.returns-in_ok-turn-in-Is-clause-within
returns-in_ok-turn-in-Is-clause-within g c = λ qv a raw s h at i.
    let m = c.args.machine.now in
    let t = c.if-not-take_step.ensures in
    let o = c.args.behind in
    inr (
      ap (λ z. z.steps) (c.in_ok-turn-in-Is.ensures.bound.counts ∙ t.counts refl),
      GoalNote (form_name c.args.form),
      atom_tells qv m (going_behind c.take_step.new.machine o) a raw s h c.args.place c.args.goal o at (step_kept m c.take_step.new.machine o t.goals t.assumed t.frames t.denied t.branch)
          t.choices (t.counts refl) (t.there refl) c.args.form i,
    )

pub returns-in_ok-turn-in-Order-clause-within : goal.returns-in_ok-turn-in-Order-clause-within
returns-in_ok-turn-in-Order-clause-within g c = λ qv a raw s h at i.
    let m = c.args.machine.now in
    let t = c.if-not-take_step.ensures in
    let o = c.args.behind in
    inr (
      ap (λ z. z.counts.steps) c.in_ok-turn-in-Order.ensures.only.same ∙ ap (λ z. z.steps) (t.counts refl),
      GoalNote (form_name c.args.form),
      atom_tells qv m (going_behind c.take_step.new.machine o) a raw s h c.args.place c.args.goal o at (step_kept m c.take_step.new.machine o t.goals t.assumed t.frames t.denied t.branch)
          t.choices (t.counts refl) (t.there refl) c.args.form i,
    )

pub returns-in_ok-turn-in-Call-clause-within : goal.returns-in_ok-turn-in-Call-clause-within
returns-in_ok-turn-in-Call-clause-within g c = λ qv a raw s h at i.
    let m = c.args.machine.now in
    let t = c.if-not-take_step.ensures in
    let o = c.args.behind in
    inr (
      c.in_ok-turn-in-Call.ensures.steps ∙ ap (λ z. z.steps) (t.counts refl),
      GoalNote (form_name c.args.form),
      atom_tells qv m (going_behind c.take_step.new.machine o) a raw s h c.args.place c.args.goal o at (step_kept m c.take_step.new.machine o t.goals t.assumed t.frames t.denied t.branch)
          t.choices (t.counts refl) (t.there refl) c.args.form i,
    )

pub returns-in-Flexible-clause-within : goal.returns-in-Flexible-clause-within
returns-in-Flexible-clause-within g c = λ qv a raw s h at i.
    let m = c.args.machine.now in
    let t = c.if-not-take_step.ensures in
    let o = c.args.behind in
    inr (
      ap (λ z. z.steps) (t.counts refl),
      GoalNote (form_name c.args.form),
      atom_tells qv m (going_behind c.take_step.new.machine o) a raw s h c.args.place c.args.goal o at (step_kept m c.take_step.new.machine o t.goals t.assumed t.frames t.denied t.branch)
          t.choices (t.counts refl) (t.there refl) c.args.form i,
    )

pub returns-in-Other-clause-within : goal.returns-in-Other-clause-within
returns-in-Other-clause-within g c = λ qv a raw s h at i.
    let m = c.args.machine.now in
    let t = c.if-not-take_step.ensures in
    let o = c.args.behind in
    inr (
      ap (λ z. z.steps) (t.counts refl),
      GoalNote (form_name c.args.form),
      atom_tells qv m (going_behind c.take_step.new.machine o) a raw s h c.args.place c.args.goal o at (step_kept m c.take_step.new.machine o t.goals t.assumed t.frames t.denied t.branch)
          t.choices (t.counts refl) (t.there refl) c.args.form i,
    )

pub returns-then-not-take_step-clause-uses : goal.returns-then-not-take_step-clause-uses
returns-then-not-take_step-clause-uses g c = λ e. absurd e

pub returns-in_ok-unified-in-Equal-clause-uses : goal.returns-in_ok-unified-in-Equal-clause-uses
returns-in_ok-unified-in-Equal-clause-uses g c = λ e.
    let t = c.if-not-take_step.ensures in
    let k = going_behind c.take_step.new.machine c.args.behind in
    step_used c.args.machine.now k c.equate.new.machine (t.counts refl) t.choices (t.there refl) (let b = c.in_ok-unified-in-Equal.ensures.bound in same_few k c.equate.new.machine b.counts (ap (λ z. z.items) b.choices))

pub returns-in_ok-turn-in-Is-clause-uses : goal.returns-in_ok-turn-in-Is-clause-uses
returns-in_ok-turn-in-Is-clause-uses g c = λ e.
    let t = c.if-not-take_step.ensures in
    let k = going_behind c.take_step.new.machine c.args.behind in
    step_used c.args.machine.now k c.assign.new.machine (t.counts refl) t.choices (t.there refl) (let b = c.in_ok-turn-in-Is.ensures.bound in same_few k c.assign.new.machine b.counts (ap (λ z. z.items) b.choices))

pub returns-in_ok-turn-in-Order-clause-uses : goal.returns-in_ok-turn-in-Order-clause-uses
returns-in_ok-turn-in-Order-clause-uses g c = λ e.
    let t = c.if-not-take_step.ensures in
    let k = going_behind c.take_step.new.machine c.args.behind in
    step_used c.args.machine.now k c.compare.new.machine (t.counts refl) t.choices (t.there refl) (let b = c.in_ok-turn-in-Order.ensures.only.same in same_few k c.compare.new.machine (ap (λ z. z.counts) b) (ap (λ z. z.choices.items) b))

pub returns-in_ok-turn-in-Call-clause-uses : goal.returns-in_ok-turn-in-Call-clause-uses
returns-in_ok-turn-in-Call-clause-uses g c = λ e.
    let t = c.if-not-take_step.ensures in
    let k = going_behind c.take_step.new.machine c.args.behind in
    step_used c.args.machine.now k c.take_call.new.machine (t.counts refl) t.choices (t.there refl) (c.in_ok-turn-in-Call.ensures.few)

pub returns-in-Flexible-clause-uses : goal.returns-in-Flexible-clause-uses
returns-in-Flexible-clause-uses g c = λ e. absurd e

pub returns-in-Other-clause-uses : goal.returns-in-Other-clause-uses
returns-in-Other-clause-uses g c = λ e.
    let t = c.if-not-take_step.ensures in
    let k = going_behind c.take_step.new.machine c.args.behind in
    step_used c.args.machine.now k k (t.counts refl) t.choices (t.there refl) (same_few k k refl refl)
