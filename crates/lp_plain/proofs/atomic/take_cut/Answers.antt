use Rattle.lp_model.specs.Skeleton.{CutNote}
use Rattle.lp_plain.specs.Moving.{quiet, taking}
use Rattle.lp_plain.proofs.Hearing.{plus_none}
use Rattle.lp_plain.specs.Moving.{KeepsSearch}
use Rattle.lp_plain.proofs.CutMoves.{cut_moved, cut_stops}
use Rattle.std.proofs.Common.{◌∙◌, refl, ap, take, length}
use Rattle.std.specs.Prelude.{nat_lt}
use Rattle.lp_plain.specs.Cuts.{one_step, cut_off}
use Rattle.lp_plain.proofs.Frames.{reads_on, keeps_then}
use Rattle.lp_plain.proofs.Stacking.{cut_tasks}
use Rattle.std.proofs.Common.{subst, sym}
use Rattle.lp_plain.specs.WrittenSearch.{IsWrittenSearch}
use Rattle.lp_plain.proofs.Growing.{grows_kept}
use Rattle.lp_plain.proofs.Opening.{same_stands}
use Rattle.lp_plain.proofs.WrittenSearches.{search_cut, search_same}
use Rattle.lp_plain.proofs.ProgramKept.{goals_keep, program_same}
use Rattle.std.proofs.Common.{inl, inr}
use Rattle.lp_plain.proofs.CutMoves.{cut_tells}
use Rattle.lp_plain.proofs.HeardParts.{told_part}
use Rattle.lp_plain.proofs.Remains.{cut_used}
use Rattle.lp_plain.proofs.atomic.take_cut.Goals as goal

pub returns-clause-cuts : goal.returns-clause-cuts
returns-clause-cuts g c =
    let m = c.args.machine.now in
    let s = c.if-not-take_step.ensures in
    let k = c.args.place.mark in
    record {
      choices = c.cut.ensures.choices ∙ ap (λ z. take k z.items) s.choices;
      counts = c.cut.ensures.counts ∙ ap (λ z. cut_off z (nat_lt k (length c.take_step.new.machine.choices.items))) (s.counts refl) ∙ ap
          (λ z. cut_off (one_step m.counts) (nat_lt k (length z.items))) s.choices;
      branch = λ a b w. record {
        goals = reads_on m c.cut.new.self a c.args.behind b.goals (keeps_then m c.take_step.new.machine c.cut.new.self s.goals c.cut.ensures.goals) w.goals;
        next = ap (λ z. z.next) (c.cut.ensures.branch ∙ s.branch) ∙ w.next;
        next_type = ap (λ z. z.next_type) (c.cut.ensures.branch ∙ s.branch) ∙ w.next_type;
      };
    }

pub returns-clause-tasks : goal.returns-clause-tasks
returns-clause-tasks g c = λ e tss keep h i.
    let m = c.args.machine.now in
    let s = c.if-not-take_step.ensures in
    let k = c.args.place.mark in
    let counts = c.cut.ensures.counts ∙ ap (λ z. cut_off z (nat_lt k (length c.take_step.new.machine.choices.items))) (s.counts refl) ∙ ap
    (λ z. cut_off (one_step m.counts) (nat_lt k (length z.items))) s.choices in
    cut_tasks m _ k keep tss (c.cut.ensures.denied ∙ s.denied) (c.cut.ensures.choices ∙ ap (λ z. take k z.items) s.choices) (ap (λ z. z.lost) counts) h i

pub returns-clause-moved : goal.returns-clause-moved
returns-clause-moved g c = λ qv.
    let m = c.args.machine.now in
    let s = c.if-not-take_step.ensures in
    let d = c.cut.ensures in
    let k = keeps_then m c.take_step.new.machine c.cut.new.self s.goals d.goals in
    let branch = d.branch ∙ s.branch in
    let keeps : KeepsSearch m _ c.args.behind =
    record {
      goals = record {
        known = record {
          bank = k.known.bank;
          bindings = k.known.bindings;
          scopes = k.known.scopes;
          table = k.known.table;
          standings = k.known.standings;
          index = k.known.index;
        };
        frames = k.frames;
      };
      assumed = record { assumptions = d.assumed.assumptions ∙ s.assumed.assumptions; newest = d.assumed.newest ∙ s.assumed.newest };
      frames = d.frames ∙ s.frames;
      denied = d.denied ∙ s.denied;
      front = refl;
      next = ap (λ z. z.next) branch;
      next_type = ap (λ z. z.next_type) branch;
      pairs = ap (λ z. z.pairs) branch;
    } in
    λ a raw t h at. (
      taking CutNote,
      (λ cs. (
        ap (λ z. z.steps) (c.cut.ensures.counts ∙ ap (λ z. cut_off z (nat_lt c.args.place.mark (length c.take_step.new.machine.choices.items))) (s.counts refl)),
        c.in_ok-tell.ensures.told,
      )),
      cut_moved qv m _ c.args.place c.args.behind keeps (returns-clause-cuts g c) (s.there refl) a raw t h at,
    )

pub returns-then-not-take_step-clause-moved : goal.returns-then-not-take_step-clause-moved
returns-then-not-take_step-clause-moved g c = λ qv a raw s h at. (
  quiet,
  (λ cs. (
    ap (λ z. z.counts.steps) (c.if-not-take_step.ensures.spent refl).0 ∙
        plus_none c.args.machine.now.counts.steps,
    refl,
  )),
  cut_stops qv c.args.machine.now c.args.machine.now c.args.place c.args.behind
      (c.if-not-take_step.ensures.spent refl).1 a raw s h at,
)

pub returns-clause-written : goal.returns-clause-written
returns-clause-written g c = λ ar i w.
    let m = c.args.machine.now in
    let n = c.take_step.new.machine in
    let q = c.cut.new.self in
    let s = c.if-not-take_step.ensures in
    let d = c.cut.ensures in
    let one = search_same m n i (grows_kept m n s.goals) s.frames s.assumed (ap (λ v. v.items) s.choices) ar w in
    let z = search_cut n q c.args.place.mark (same_stands m n s.goals s.frames i) (grows_kept n q d.goals) d.frames d.assumed d.choices ar one in
    record { at_work = z.at_work; alternatives = z.alternatives; older = z.older }

pub returns-then-not-take_step-clause-written : goal.returns-then-not-take_step-clause-written
returns-then-not-take_step-clause-written g c = λ ar i w. subst (λ x. IsWrittenSearch x ar) (sym (c.if-not-take_step.ensures.spent refl).0) w

pub returns-clause-program : goal.returns-clause-program
returns-clause-program g c =
    let z = goals_keep c.args.machine.now c.cut.new.self (keeps_then c.args.machine.now c.take_step.new.machine c.cut.new.self c.if-not-take_step.ensures.goals c.cut.ensures.goals) in
    record { bank = z.bank; table = z.table; index = z.index }

pub returns-then-not-take_step-clause-program : goal.returns-then-not-take_step-clause-program
returns-then-not-take_step-clause-program g c = program_same c.args.machine.now c.take_step.new.machine (c.if-not-take_step.ensures.spent refl).0

pub returns-then-not-take_step-clause-begins : goal.returns-then-not-take_step-clause-begins
returns-then-not-take_step-clause-begins g c = λ qv a raw s h at cs. inl refl

pub returns-in_err-tell-clause-begins : goal.returns-in_err-tell-clause-begins
returns-in_err-tell-clause-begins g c = λ qv a raw s h at cs. inr (
  CutNote,
  cut_tells qv c.args.machine.now c.args.place c.args.behind (c.if-not-take_step.ensures.there refl) a raw s h at,
  told_part cs c.tell.result CutNote _ _ _ refl c.tell.ensures.told c.tell.ensures.memory,
)

pub returns-clause-begins : goal.returns-clause-begins
returns-clause-begins g c = λ qv a raw s h at cs. inr (
  CutNote,
  cut_tells qv c.args.machine.now c.args.place c.args.behind (c.if-not-take_step.ensures.there refl) a raw s h at,
  told_part cs c.tell.result CutNote _ _ _ refl c.tell.ensures.told c.tell.ensures.memory,
)

pub returns-then-not-take_step-clause-within : goal.returns-then-not-take_step-clause-within
returns-then-not-take_step-clause-within g c = λ qv a raw s h at. inl (ap (λ z. z.counts.steps) (c.if-not-take_step.ensures.spent refl).0)

pub returns-clause-within : goal.returns-clause-within
returns-clause-within g c = λ qv a raw s h at. inr (
  ap (λ z. z.steps) (c.cut.ensures.counts ∙ ap (λ z. cut_off z (nat_lt c.args.place.mark (length c.take_step.new.machine.choices.items))) (c.if-not-take_step.ensures.counts refl)),
  CutNote,
  cut_tells qv c.args.machine.now c.args.place c.args.behind (c.if-not-take_step.ensures.there refl) a raw s h at,
)

pub returns-then-not-take_step-clause-uses : goal.returns-then-not-take_step-clause-uses
returns-then-not-take_step-clause-uses g c = λ e. absurd e

pub returns-clause-uses : goal.returns-clause-uses
returns-clause-uses g c = λ e.
    let z = returns-clause-cuts g c in
    let u = cut_used c.args.machine.now c.cut.new.self _ c.args.place.mark z.counts z.choices (c.if-not-take_step.ensures.there refl) in
    record { counts = u.counts; choices = u.choices }
