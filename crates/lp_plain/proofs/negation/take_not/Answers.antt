use Rattle.lp_model.specs.Skeleton.{GoalNote, named, not_constant}
use Rattle.lp_plain.specs.Moving.{quiet, taking}
use Rattle.lp_plain.proofs.Hearing.{plus_none}
use Rattle.std.proofs.Common.{refl, subst, ap, map, ◌∙◌}
use Rattle.lp_watch.specs.Crowd.{crowd_after, places}
use Rattle.lp_watch.specs.Notes.{goal as told_goal}
use Rattle.lp_plain.specs.Negations.{AreFound}
use Rattle.lp_plain.specs.declared.openness.Openness.TheVariants.{Closed, Open, Deep}
use Rattle.lp_plain.specs.declared.openness.Standing.{Standing}
use Rattle.lp_plain.proofs.DeniedGoals.{inner_after}
use Rattle.lp_plain.proofs.FoundGoals.{found_before, begins_after}
use Rattle.lp_plain.proofs.Growing.{grows_kept, grows_then}
use Rattle.std.proofs.Common.{[]}
use Rattle.lp_plain.proofs.Opening.{same_stands}
use Rattle.lp_plain.proofs.WrittenGrows.{list_in_later}
use Rattle.lp_plain.proofs.WrittenSearches.{search_same}
use Rattle.lp_plain.proofs.ProgramKept.{goals_keep, program_same, program_then}
use Rattle.std.proofs.Common.{◌≡◌}
use Rattle.lp_term.specs.Nodes.{Extends}
use Rattle.lp_plain.specs.Cuts.{one_step, stepped}
use Rattle.lp_plain.specs.Denials.{IsBegun}
use Rattle.lp_plain.specs.HeadLooks.{with_bank}
use Rattle.lp_plain.proofs.DenyTurns.{ends_at_steps, ends_deep, ends_open, search_begins}
use Rattle.std.proofs.Common.{inl, inr}
use Rattle.lp_plain.proofs.DenyTurns.{not_tells}
use Rattle.lp_plain.proofs.HeardParts.{told_part}
use Rattle.lp_plain.specs.Negations.{denial}
use Rattle.lp_plain.proofs.Remains.{denied_used}
use Rattle.lp_plain.proofs.negation.take_not.Goals as goal

pub returns-in-Deep-clause-takes : goal.returns-in-Deep-clause-takes
returns-in-Deep-clause-takes g c =
    let goals : Standing = record { free = c.args.free; values = c.args.place.values; older = c.args.place.standing } in (
      found_before c.args.machine.now c.take_step.new.machine goals Deep c.take_step.ensures.known (subst (AreFound c.take_step.new.machine goals) c.in-Deep.is c.in_ok-openness_at.ensures.found),
      ap (λ k. k.steps) c.openness_at.ensures.counts ∙ c.take_step.ensures.taken c.if-not-take_step.false,
    )

pub returns-in-Open-clause-takes : goal.returns-in-Open-clause-takes
returns-in-Open-clause-takes g c =
    let goals : Standing = record { free = c.args.free; values = c.args.place.values; older = c.args.place.standing } in (
      found_before c.args.machine.now c.take_step.new.machine goals Open c.take_step.ensures.known (subst (AreFound c.take_step.new.machine goals) c.in-Open.is c.in_ok-openness_at.ensures.found),
      ap (λ k. k.steps) c.openness_at.ensures.counts ∙ c.take_step.ensures.taken c.if-not-take_step.false,
    )

pub returns-in_ok-begin-in-Closed-clause-takes : goal.returns-in_ok-begin-in-Closed-clause-takes
returns-in_ok-begin-in-Closed-clause-takes g c =
    let goals : Standing = record { free = c.args.free; values = c.args.place.values; older = c.args.place.standing } in
    let e = c.in_ok-begin-in-Closed.ensures in (
      found_before c.args.machine.now c.take_step.new.machine goals Closed c.take_step.ensures.known (subst (AreFound c.take_step.new.machine goals) c.in-Closed.is c.in_ok-openness_at.ensures.found),
      begins_after c.args.machine.now c.openness_at.new.machine c.begin.new.machine c.args.behind
          (c.openness_at.ensures.choices ∙ c.take_step.ensures.choices) (c.openness_at.ensures.denied ∙ c.take_step.ensures.denied)
          (ap (λ k. k.lost) c.openness_at.ensures.counts ∙ c.take_step.ensures.lost)
          (ap (λ k. k.steps) c.openness_at.ensures.counts ∙ c.take_step.ensures.taken c.if-not-take_step.false) e.more e.inside e.lost e.steps,
    )

pub returns-in_ok-begin-in-Closed-clause-inner : goal.returns-in_ok-begin-in-Closed-clause-inner
returns-in_ok-begin-in-Closed-clause-inner g c = λ on.
    let m = c.args.machine.now in
    let n = c.openness_at.new.machine in
    inner_after m n c.begin.new.machine c.args.place c.args.goals c.args.behind (grows_then m c.take_step.new.machine n
    (grows_kept m c.take_step.new.machine c.take_step.ensures.goals) c.in_ok-openness_at.ensures.grows)
    (c.openness_at.ensures.branch ∙ c.take_step.ensures.branch) c.in_ok-begin-in-Closed.ensures.inner

pub returns-in_ok-begin-in-Closed-clause-written : goal.returns-in_ok-begin-in-Closed-clause-written
returns-in_ok-begin-in-Closed-clause-written g c = λ on ar i w s.
    let m = c.args.machine.now in
    let k = c.take_step.new.machine in
    let n = c.openness_at.new.machine in
    let t = c.take_step.ensures in
    let o = c.openness_at.ensures in
    let grown = c.in_ok-openness_at.ensures.grows in
    let j = same_stands m k t.goals t.frames i in
    let one = search_same m k i (grows_kept m k t.goals) t.frames t.assumed (ap (λ v. v.items) t.choices) ar s in
    let two = search_same k n j grown o.frames (record { assumptions = o.assumptions; newest = o.newest }) (ap (λ v. v.items) o.choices) ar one in
    c.in_ok-begin-in-Closed.ensures.written ar (c.in_ok-openness_at.ensures.stands j)
    (list_in_later m n i (grows_then m k n (grows_kept m k t.goals) grown) ar c.args.place.values.scope [] c.args.goals w) two

pub returns-then-not-take_step-clause-program : goal.returns-then-not-take_step-clause-program
returns-then-not-take_step-clause-program g c = program_same c.args.machine.now c.take_step.new.machine (c.if-not-take_step.ensures.spent refl).0

pub returns-in-Deep-clause-program : goal.returns-in-Deep-clause-program
returns-in-Deep-clause-program g c = program_then c.args.machine.now c.take_step.new.machine c.openness_at.new.machine
    (goals_keep c.args.machine.now c.take_step.new.machine c.take_step.ensures.goals) c.in_ok-openness_at.ensures.program

pub returns-in-Open-clause-program : goal.returns-in-Open-clause-program
returns-in-Open-clause-program g c = program_then c.args.machine.now c.take_step.new.machine c.openness_at.new.machine
    (goals_keep c.args.machine.now c.take_step.new.machine c.take_step.ensures.goals) c.in_ok-openness_at.ensures.program

pub returns-in_ok-begin-in-Closed-clause-program : goal.returns-in_ok-begin-in-Closed-clause-program
returns-in_ok-begin-in-Closed-clause-program g c =
    let m = c.args.machine.now in
    let k = c.take_step.new.machine in
    let n = c.openness_at.new.machine in
    program_then m n c.begin.new.machine (program_then m k n (goals_keep m k c.take_step.ensures.goals) c.in_ok-openness_at.ensures.program) c.in_ok-begin-in-Closed.ensures.program

pub returns-then-not-take_step-clause-denies : goal.returns-then-not-take_step-clause-denies
returns-then-not-take_step-clause-denies g c = λ qv a raw s h at. (
  quiet,
  (λ cs. (ap (λ z. z.counts.steps) (c.if-not-take_step.ensures.spent refl).0 ∙ plus_none c.args.machine.now.counts.steps, refl)),
  ends_at_steps qv c.args.machine.now a raw s h c.args.place c.args.goals c.args.free c.args.behind at c.args.machine.now
      (c.if-not-take_step.ensures.spent refl).1,
)

pub returns-in-Deep-clause-denies : goal.returns-in-Deep-clause-denies
returns-in-Deep-clause-denies g c = λ qv a raw s h at.
    let old = places c.args.crowd.now.texts.items (map g.W.Watch.seen c.args.crowd.now.watchers.now.items) in
    let goals : Standing = record { free = c.args.free; values = c.args.place.values; older = c.args.place.standing } in (
      taking (GoalNote (named not_constant)),
      (λ cs. ((ap (λ z. z.counts.steps) c.in_ok-openness_at.ensures.bank.same ∙ ap (λ z. z.counts.steps) (c.take_step.ensures.stepped c.if-not-take_step.false)), c.in_ok-tell.ensures.told ∙ ap (λ bs. crowd_after (told_goal bs) old) c.name.ensures)),
      ends_deep qv c.args.machine.now a raw s h c.args.place c.args.goals c.args.free c.args.behind at (c.take_step.ensures.there c.if-not-take_step.false) c.openness_at.new.machine
          (found_before c.args.machine.now c.take_step.new.machine goals Deep c.take_step.ensures.known
          (subst (AreFound c.take_step.new.machine goals) c.in-Deep.is c.in_ok-openness_at.ensures.found)),
    )

pub returns-in-Open-clause-denies : goal.returns-in-Open-clause-denies
returns-in-Open-clause-denies g c = λ qv a raw s h at.
    let old = places c.args.crowd.now.texts.items (map g.W.Watch.seen c.args.crowd.now.watchers.now.items) in
    let goals : Standing = record { free = c.args.free; values = c.args.place.values; older = c.args.place.standing } in (
      taking (GoalNote (named not_constant)),
      (λ cs. ((ap (λ z. z.counts.steps) c.in_ok-openness_at.ensures.bank.same ∙ ap (λ z. z.counts.steps) (c.take_step.ensures.stepped c.if-not-take_step.false)), c.in_ok-tell.ensures.told ∙ ap (λ bs. crowd_after (told_goal bs) old) c.name.ensures)),
      ends_open qv c.args.machine.now a raw s h c.args.place c.args.goals c.args.free c.args.behind at (c.take_step.ensures.there c.if-not-take_step.false) c.openness_at.new.machine
          (found_before c.args.machine.now c.take_step.new.machine goals Open c.take_step.ensures.known
          (subst (AreFound c.take_step.new.machine goals) c.in-Open.is c.in_ok-openness_at.ensures.found)),
    )

pub returns-in_ok-begin-in-Closed-clause-denies : goal.returns-in_ok-begin-in-Closed-clause-denies
returns-in_ok-begin-in-Closed-clause-denies g c = λ qv a raw s h at.
    let old = places c.args.crowd.now.texts.items (map g.W.Watch.seen c.args.crowd.now.watchers.now.items) in
    let m = c.args.machine.now in
    let t = c.take_step.new.machine in
    let o = c.openness_at.new.machine in
    let n = c.begin.new.machine in
    let goals : Standing = record { free = c.args.free; values = c.args.place.values; older = c.args.place.standing } in
    let st : t ≡ stepped m = c.take_step.ensures.stepped c.if-not-take_step.false in
    let ob = c.in_ok-openness_at.ensures.bank in
    let x : Extends m.bank o.bank = subst (λ z. Extends z.bank o.bank) st ob.bank in
    let same : o ≡ record m { counts = one_step m.counts; bank = o.bank } = ob.same ∙ ap (λ z. with_bank z o.bank) st in (
      taking (GoalNote (named not_constant)),
      (λ cs. (
        ap (λ z. z.steps) c.in_ok-begin-in-Closed.ensures.begun.counts ∙ (ap (λ z. z.counts.steps) c.in_ok-openness_at.ensures.bank.same ∙ ap
            (λ z. z.counts.steps) (c.take_step.ensures.stepped c.if-not-take_step.false)),
        c.in_ok-tell.ensures.told ∙ ap (λ bs. crowd_after (told_goal bs) old) c.name.ensures,
      )),
      (
        refl,
        search_begins qv m a raw s h c.args.place c.args.goals c.args.free c.args.behind at (c.take_step.ensures.there c.if-not-take_step.false) o.bank x n
            (subst (λ z. IsBegun z n c.args.place c.args.goals c.args.behind) same c.in_ok-begin-in-Closed.ensures.begun)
            (found_before m t goals Closed c.take_step.ensures.known (subst (AreFound t goals) c.in-Closed.is c.in_ok-openness_at.ensures.found)),
      ),
    )

pub returns-then-not-take_step-clause-begins : goal.returns-then-not-take_step-clause-begins
returns-then-not-take_step-clause-begins g c = λ qv a raw s h at cs. inl refl

pub returns-in_err-tell-clause-begins : goal.returns-in_err-tell-clause-begins
returns-in_err-tell-clause-begins g c = λ qv a raw s h at cs. inr (
  GoalNote (named not_constant),
  not_tells qv c.args.machine.now a raw s h c.args.place c.args.goals c.args.free c.args.behind at (c.take_step.ensures.there c.if-not-take_step.false),
  told_part cs c.tell.result (GoalNote (named not_constant)) _ _ _ (ap told_goal c.name.ensures) c.tell.ensures.told c.tell.ensures.memory,
)

pub returns-in_err-openness_at-clause-begins : goal.returns-in_err-openness_at-clause-begins
returns-in_err-openness_at-clause-begins g c = λ qv a raw s h at cs. inr (
  GoalNote (named not_constant),
  not_tells qv c.args.machine.now a raw s h c.args.place c.args.goals c.args.free c.args.behind at (c.take_step.ensures.there c.if-not-take_step.false),
  told_part cs c.tell.result (GoalNote (named not_constant)) _ _ _ (ap told_goal c.name.ensures) c.tell.ensures.told c.tell.ensures.memory,
)

pub returns-in-Deep-clause-begins : goal.returns-in-Deep-clause-begins
returns-in-Deep-clause-begins g c = λ qv a raw s h at cs. inr (
  GoalNote (named not_constant),
  not_tells qv c.args.machine.now a raw s h c.args.place c.args.goals c.args.free c.args.behind at (c.take_step.ensures.there c.if-not-take_step.false),
  told_part cs c.tell.result (GoalNote (named not_constant)) _ _ _ (ap told_goal c.name.ensures) c.tell.ensures.told c.tell.ensures.memory,
)

pub returns-in-Open-clause-begins : goal.returns-in-Open-clause-begins
returns-in-Open-clause-begins g c = λ qv a raw s h at cs. inr (
  GoalNote (named not_constant),
  not_tells qv c.args.machine.now a raw s h c.args.place c.args.goals c.args.free c.args.behind at (c.take_step.ensures.there c.if-not-take_step.false),
  told_part cs c.tell.result (GoalNote (named not_constant)) _ _ _ (ap told_goal c.name.ensures) c.tell.ensures.told c.tell.ensures.memory,
)

pub returns-in_err-begin-in-Closed-clause-begins : goal.returns-in_err-begin-in-Closed-clause-begins
returns-in_err-begin-in-Closed-clause-begins g c = λ qv a raw s h at cs. inr (
  GoalNote (named not_constant),
  not_tells qv c.args.machine.now a raw s h c.args.place c.args.goals c.args.free c.args.behind at (c.take_step.ensures.there c.if-not-take_step.false),
  told_part cs c.tell.result (GoalNote (named not_constant)) _ _ _ (ap told_goal c.name.ensures) c.tell.ensures.told c.tell.ensures.memory,
)

pub returns-in_ok-begin-in-Closed-clause-begins : goal.returns-in_ok-begin-in-Closed-clause-begins
returns-in_ok-begin-in-Closed-clause-begins g c = λ qv a raw s h at cs. inr (
  GoalNote (named not_constant),
  not_tells qv c.args.machine.now a raw s h c.args.place c.args.goals c.args.free c.args.behind at (c.take_step.ensures.there c.if-not-take_step.false),
  told_part cs c.tell.result (GoalNote (named not_constant)) _ _ _ (ap told_goal c.name.ensures) c.tell.ensures.told c.tell.ensures.memory,
)

pub returns-then-not-take_step-clause-within : goal.returns-then-not-take_step-clause-within
returns-then-not-take_step-clause-within g c = λ qv a raw s h at. inl (ap (λ z. z.counts.steps) (c.if-not-take_step.ensures.spent refl).0)

pub returns-in-Deep-clause-within : goal.returns-in-Deep-clause-within
returns-in-Deep-clause-within g c = λ qv a raw s h at. inr (
  ap (λ z. z.counts.steps) c.in_ok-openness_at.ensures.bank.same ∙ ap (λ z. z.counts.steps) (c.take_step.ensures.stepped c.if-not-take_step.false),
  GoalNote (named not_constant),
  not_tells qv c.args.machine.now a raw s h c.args.place c.args.goals c.args.free c.args.behind at (c.take_step.ensures.there c.if-not-take_step.false),
)

pub returns-in-Open-clause-within : goal.returns-in-Open-clause-within
returns-in-Open-clause-within g c = λ qv a raw s h at. inr (
  ap (λ z. z.counts.steps) c.in_ok-openness_at.ensures.bank.same ∙ ap (λ z. z.counts.steps) (c.take_step.ensures.stepped c.if-not-take_step.false),
  GoalNote (named not_constant),
  not_tells qv c.args.machine.now a raw s h c.args.place c.args.goals c.args.free c.args.behind at (c.take_step.ensures.there c.if-not-take_step.false),
)

pub returns-in_ok-begin-in-Closed-clause-within : goal.returns-in_ok-begin-in-Closed-clause-within
returns-in_ok-begin-in-Closed-clause-within g c = λ qv a raw s h at. inr (
  ap (λ z. z.steps) c.in_ok-begin-in-Closed.ensures.begun.counts ∙ (ap (λ z. z.counts.steps) c.in_ok-openness_at.ensures.bank.same ∙ ap (λ z. z.counts.steps) (c.take_step.ensures.stepped c.if-not-take_step.false)),
  GoalNote (named not_constant),
  not_tells qv c.args.machine.now a raw s h c.args.place c.args.goals c.args.free c.args.behind at (c.take_step.ensures.there c.if-not-take_step.false),
)

pub returns-then-not-take_step-clause-uses : goal.returns-then-not-take_step-clause-uses
returns-then-not-take_step-clause-uses g c = λ e. absurd e

pub returns-in-Deep-clause-uses : goal.returns-in-Deep-clause-uses
returns-in-Deep-clause-uses g c = λ e. absurd e

pub returns-in-Open-clause-uses : goal.returns-in-Open-clause-uses
returns-in-Open-clause-uses g c = λ e. absurd e

pub returns-in_ok-begin-in-Closed-clause-uses : goal.returns-in_ok-begin-in-Closed-clause-uses
returns-in_ok-begin-in-Closed-clause-uses g c = λ e.
    let t = c.take_step.ensures in
    let o = c.openness_at.ensures in
    let b = c.in_ok-begin-in-Closed.ensures in
    denied_used c.args.machine.now c.openness_at.new.machine c.begin.new.machine (denial c.openness_at.new.machine c.args.behind)
    (o.counts ∙ t.counts c.if-not-take_step.false) (ap (λ z. z.items) (o.choices ∙ t.choices)) b.begun.counts b.more (t.there c.if-not-take_step.false)
