use Rattle.std.proofs.Common.{◌+◌, ◌∙◌, ap, refl}
use Rattle.lp_plain.specs.Moving.{quiet}
use Rattle.lp_plain.proofs.Hearing.{apart_steps, plus_none}
use Rattle.lp_plain.proofs.PartMoves.{part_moves}
use Rattle.lp_plain.proofs.AtomFirst.{atom_first, not_first}
use Rattle.lp_plain.specs.Moving.{IsAtGoal}
use Rattle.std.proofs.Common.{subst}
use Rattle.lp_plain.specs.Taking.{IsApartFlat}
use Rattle.lp_plain.proofs.TakenApart.{none_taken}
use Rattle.lp_plain.specs.AtRunTime.{IsWrittenFlat}
use Rattle.lp_plain.proofs.AtomAtHand.{instance_at, no_atom_first}
use Rattle.lp_plain.proofs.CallArm.{written_behind}
use Rattle.lp_plain.proofs.LookedOn.{running_on}
use Rattle.lp_plain.proofs.ProgramKept.{only_keeps, program_then}
use Rattle.lp_plain.proofs.FirstKinds.{apart_behind, apart_flat}
use Rattle.lp_plain.proofs.CallTerms.{only_program, only_written}
use Rattle.lp_plain.proofs.DenyFirst.{no_denied_first, not_written}
use Rattle.std.proofs.Common.{inl}
use Rattle.lp_plain.proofs.Beginning.{counts_from}
use Rattle.lp_plain.proofs.Remains.{used_from}
use Rattle.lp_plain.proofs.turn.take_flat.Goals as goal

pub returns-in_ok-turn-in-Atom-clause-taken : goal.returns-in_ok-turn-in-Atom-clause-taken
returns-in_ok-turn-in-Atom-clause-taken g c = λ e.
    let y = c.in-Atom.is in
    none_taken c.args.machine.now c.take_term.new.machine c.args.place c.args.goal c.args.behind (λ l r z. cc) (λ l z. cc) (λ l z. cc) (λ s l f z. cc)

pub returns-in_ok-turn-in-Atom-clause-counted : goal.returns-in_ok-turn-in-Atom-clause-counted
returns-in_ok-turn-in-Atom-clause-counted g c = λ h ar w. absurd (subst IsApartFlat c.in-Atom.is h)

pub returns-in_ok-turn-in-Cut-clause-taken : goal.returns-in_ok-turn-in-Cut-clause-taken
returns-in_ok-turn-in-Cut-clause-taken g c = λ e.
    let y = c.in-Cut.is in
    none_taken c.args.machine.now c.take_cut.new.machine c.args.place c.args.goal c.args.behind (λ l r z. cc) (λ l z. cc) (λ l z. cc) (λ s l f z. cc)

pub returns-in_ok-turn-in-Cut-clause-counted : goal.returns-in_ok-turn-in-Cut-clause-counted
returns-in_ok-turn-in-Cut-clause-counted g c = λ h ar w. absurd (subst IsApartFlat c.in-Cut.is h)

pub returns-in_ok-turn-in-Not-clause-taken : goal.returns-in_ok-turn-in-Not-clause-taken
returns-in_ok-turn-in-Not-clause-taken g c = λ e.
    let y = c.in-Not.is in
    none_taken c.args.machine.now c.take_not.new.machine c.args.place c.args.goal c.args.behind (λ l r z. cc) (λ l z. cc) (λ l z. cc) (λ s l f z. cc)

pub returns-in_ok-turn-in-Not-clause-counted : goal.returns-in_ok-turn-in-Not-clause-counted
returns-in_ok-turn-in-Not-clause-counted g c = λ h ar w. absurd (subst IsApartFlat c.in-Not.is h)

pub returns-in_ok-turn-in-Atom-clause-marks : goal.returns-in_ok-turn-in-Atom-clause-marks
returns-in_ok-turn-in-Atom-clause-marks g c = λ e h. absurd (subst IsApartFlat c.in-Atom.is h)

pub returns-in_ok-turn-in-Cut-clause-marks : goal.returns-in_ok-turn-in-Cut-clause-marks
returns-in_ok-turn-in-Cut-clause-marks g c = λ e h. absurd (subst IsApartFlat c.in-Cut.is h)

pub returns-in_ok-turn-in-Not-clause-marks : goal.returns-in_ok-turn-in-Not-clause-marks
returns-in_ok-turn-in-Not-clause-marks g c = λ e h. absurd (subst IsApartFlat c.in-Not.is h)

pub returns-in_ok-turn-in-Atom-clause-aside : goal.returns-in_ok-turn-in-Atom-clause-aside
returns-in_ok-turn-in-Atom-clause-aside g c = λ e h. absurd (subst IsApartFlat c.in-Atom.is h)

pub returns-in_ok-turn-in-Cut-clause-aside : goal.returns-in_ok-turn-in-Cut-clause-aside
returns-in_ok-turn-in-Cut-clause-aside g c = λ e h. absurd (subst IsApartFlat c.in-Cut.is h)

pub returns-in_ok-turn-in-Not-clause-aside : goal.returns-in_ok-turn-in-Not-clause-aside
returns-in_ok-turn-in-Not-clause-aside g c = λ e h. absurd (subst IsApartFlat c.in-Not.is h)

pub returns-in_ok-turn-in-Atom-clause-moved : goal.returns-in_ok-turn-in-Atom-clause-moved
returns-in_ok-turn-in-Atom-clause-moved g c = λ qv a raw s h at pf w. absurd (atom_first c.args.machine.now a c.args.place c.in-Atom.term c.args.behind
    raw (subst (λ f. IsAtGoal c.args.machine.now a c.args.place f c.args.behind raw) c.in-Atom.is at) pf)

pub returns-in_ok-turn-in-Cut-clause-moved : goal.returns-in_ok-turn-in-Cut-clause-moved
returns-in_ok-turn-in-Cut-clause-moved g c = λ qv a raw s h at pf w.
    let r = c.in_ok-turn-in-Cut.ensures.moved qv a raw s h (subst (λ f. IsAtGoal c.args.machine.now a c.args.place f c.args.behind raw) c.in-Cut.is at) in
    (r.0, r.1 c.args.constants.now, r.2)

pub returns-in_ok-turn-in-Not-clause-moved : goal.returns-in_ok-turn-in-Not-clause-moved
returns-in_ok-turn-in-Not-clause-moved g c = λ qv a raw s h at pf w.
    absurd (not_first c.args.machine.now a c.args.place c.in-Not.goals c.in-Not.free c.args.behind raw (subst (λ f. IsAtGoal c.args.machine.now a c.args.place f c.args.behind raw) c.in-Not.is at) pf)

pub returns-in_ok-turn-in_default-clause-counted : goal.returns-in_ok-turn-in_default-clause-counted
returns-in_ok-turn-in_default-clause-counted g c = λ h ar w. c.in_ok-turn-in_default.ensures.counted ar w

pub returns-in_ok-turn-in_default-clause-moved : goal.returns-in_ok-turn-in_default-clause-moved
returns-in_ok-turn-in_default-clause-moved g c = λ qv a raw s h at pf w.
    let e = c.in_ok-turn-in_default.ensures in
    let n = c.put_parts.new.machine in (
      quiet,
      (apart_steps c.in_ok-turn-in_default.turn c.args.machine.now.counts n.counts (e.counted qv.arity w) ∙ plus_none c.args.machine.now.counts.steps, refl),
      part_moves qv c.args.machine.now n c.args.place c.args.goal c.args.behind c.in_ok-turn-in_default.turn e.taken e.none e.aside_with
          c.in_default.not-Cut a raw s h at pf n.counts (e.counted qv.arity w),
    )

pub returns-in_ok-turn-in-Atom-clause-written : goal.returns-in_ok-turn-in-Atom-clause-written
returns-in_ok-turn-in-Atom-clause-written g c = λ e h. absurd (subst IsApartFlat c.in-Atom.is h)

pub returns-in_ok-turn-in-Cut-clause-written : goal.returns-in_ok-turn-in-Cut-clause-written
returns-in_ok-turn-in-Cut-clause-written g c = λ e h. absurd (subst IsApartFlat c.in-Cut.is h)

pub returns-in_ok-turn-in-Not-clause-written : goal.returns-in_ok-turn-in-Not-clause-written
returns-in_ok-turn-in-Not-clause-written g c = λ e h. absurd (subst IsApartFlat c.in-Not.is h)

pub returns-in_ok-turn-in_default-clause-written : goal.returns-in_ok-turn-in_default-clause-written
returns-in_ok-turn-in_default-clause-written g c = c.in_ok-turn-in_default.ensures.written

pub returns-in_ok-turn-in-Atom-clause-leads : goal.returns-in_ok-turn-in-Atom-clause-leads
returns-in_ok-turn-in-Atom-clause-leads g c = λ qv a raw s h at af w.
    let m = c.args.machine.now in
    let n = c.instance.new.self in
    let p = c.args.place in
    let u = c.in-Atom.term in
    let e = c.in_ok-atom-in-Atom.ensures in
    let at' = subst (λ f. IsAtGoal m a p f c.args.behind raw) c.in-Atom.is at in
    let w' = subst (IsWrittenFlat m qv.arity p) c.in-Atom.is w in
    let r = c.in_ok-turn-in-Atom.ensures.leads qv a raw s (running_on m n e.bank qv a raw s h p at'.place)
    (instance_at m n e.bank p u c.in_ok-atom-in-Atom.atom e.within e.tree a c.args.behind raw h.above.done.stands at' qv.arity w') in
    (r.0, (r.1.0 ∙ ap (λ z. z.counts.steps + r.0.steps) e.bank.same, r.1.1), λ css pr sw. r.2 css (only_program m n e.bank qv.arity css pr) (only_written m n e.bank h.above.done.stands qv.arity sw))

pub returns-in_ok-turn-in-Cut-clause-leads : goal.returns-in_ok-turn-in-Cut-clause-leads
returns-in_ok-turn-in-Cut-clause-leads g c = λ qv a raw s h at af w.
    let y = c.in-Cut.is in
    absurd (no_atom_first c.args.machine.now a c.args.place c.args.goal c.args.behind raw at (λ u z. cc) af)

pub returns-in_ok-turn-in-Not-clause-leads : goal.returns-in_ok-turn-in-Not-clause-leads
returns-in_ok-turn-in-Not-clause-leads g c = λ qv a raw s h at af w.
    let y = c.in-Not.is in
    absurd (no_atom_first c.args.machine.now a c.args.place c.args.goal c.args.behind raw at (λ u z. cc) af)

pub returns-in_ok-turn-in_default-clause-leads : goal.returns-in_ok-turn-in_default-clause-leads
returns-in_ok-turn-in_default-clause-leads g c = λ qv a raw s h at af w.
    absurd (no_atom_first c.args.machine.now a c.args.place c.args.goal c.args.behind raw at c.in_default.not-Atom af)

pub returns-in_ok-turn-in-Atom-clause-stays : goal.returns-in_ok-turn-in-Atom-clause-stays
returns-in_ok-turn-in-Atom-clause-stays g c = λ a raw at pf ar st w sw. absurd (atom_first c.args.machine.now a c.args.place c.in-Atom.term
    c.args.behind raw (subst (λ f. IsAtGoal c.args.machine.now a c.args.place f c.args.behind raw) c.in-Atom.is at) pf)

pub returns-in_ok-turn-in-Cut-clause-stays : goal.returns-in_ok-turn-in-Cut-clause-stays
returns-in_ok-turn-in-Cut-clause-stays g c = λ a raw at pf ar st w sw. written_behind c.in_ok-turn-in-Cut.turn c.take_cut.new.machine ar (c.in_ok-turn-in-Cut.ensures.written ar st sw)

pub returns-in_ok-turn-in-Not-clause-stays : goal.returns-in_ok-turn-in-Not-clause-stays
returns-in_ok-turn-in-Not-clause-stays g c = λ a raw at pf ar st w sw.
    absurd (not_first c.args.machine.now a c.args.place c.in-Not.goals c.in-Not.free c.args.behind raw (subst (λ f. IsAtGoal c.args.machine.now a c.args.place f c.args.behind raw) c.in-Not.is at) pf)

pub returns-in_ok-turn-in_default-clause-stays : goal.returns-in_ok-turn-in_default-clause-stays
returns-in_ok-turn-in_default-clause-stays g c = λ a raw at pf ar st w sw.
    let n = c.put_parts.new.machine in
    let e = c.in_ok-turn-in_default.ensures in
    apart_behind c.in_ok-turn-in_default.turn n ar c.args.machine.now.counts n.counts (e.counted ar w)
    (λ q. e.written q (apart_flat c.args.goal c.in_default.not-Atom c.in_default.not-Cut c.in_default.not-Not) ar st w sw)

pub returns-in_ok-turn-in-Atom-clause-program : goal.returns-in_ok-turn-in-Atom-clause-program
returns-in_ok-turn-in-Atom-clause-program g c =
    let m = c.args.machine.now in
    let n = c.instance.new.self in
    program_then m n c.take_term.new.machine (only_keeps m n c.in_ok-atom-in-Atom.ensures.bank) c.in_ok-turn-in-Atom.ensures.program

pub returns-in_ok-turn-in-Cut-clause-program : goal.returns-in_ok-turn-in-Cut-clause-program
returns-in_ok-turn-in-Cut-clause-program g c = c.in_ok-turn-in-Cut.ensures.program

pub returns-in_ok-turn-in-Not-clause-program : goal.returns-in_ok-turn-in-Not-clause-program
returns-in_ok-turn-in-Not-clause-program g c = c.in_ok-turn-in-Not.ensures.program

pub returns-in_ok-turn-in_default-clause-program : goal.returns-in_ok-turn-in_default-clause-program
returns-in_ok-turn-in_default-clause-program g c = c.in_ok-turn-in_default.ensures.program

pub returns-in_ok-turn-in-Atom-clause-ends : goal.returns-in_ok-turn-in-Atom-clause-ends
returns-in_ok-turn-in-Atom-clause-ends g c = c.in_ok-turn-in-Atom.ensures.ends

pub returns-in_ok-turn-in-Cut-clause-ends : goal.returns-in_ok-turn-in-Cut-clause-ends
returns-in_ok-turn-in-Cut-clause-ends g c = c.in_ok-turn-in-Cut.ensures.ends

pub returns-in_ok-turn-in-Not-clause-ends : goal.returns-in_ok-turn-in-Not-clause-ends
returns-in_ok-turn-in-Not-clause-ends g c = c.in_ok-turn-in-Not.ensures.ends

pub returns-in_ok-turn-in_default-clause-ends : goal.returns-in_ok-turn-in_default-clause-ends
returns-in_ok-turn-in_default-clause-ends g c = c.in_ok-turn-in_default.ensures.ends

pub returns-in_ok-turn-in-Atom-clause-denies : goal.returns-in_ok-turn-in-Atom-clause-denies
returns-in_ok-turn-in-Atom-clause-denies g c = λ qv a raw s h at df.
    let y = c.in-Atom.is in
    absurd (no_denied_first c.args.machine.now a c.args.place c.args.goal c.args.behind raw at (λ l f z. cc) df)

pub returns-in_ok-turn-in-Cut-clause-denies : goal.returns-in_ok-turn-in-Cut-clause-denies
returns-in_ok-turn-in-Cut-clause-denies g c = λ qv a raw s h at df.
    let y = c.in-Cut.is in
    absurd (no_denied_first c.args.machine.now a c.args.place c.args.goal c.args.behind raw at (λ l f z. cc) df)

pub returns-in_ok-turn-in-Not-clause-denies : goal.returns-in_ok-turn-in-Not-clause-denies
returns-in_ok-turn-in-Not-clause-denies g c = λ qv a raw s h at df.
    let r = c.in_ok-turn-in-Not.ensures.denies qv a raw s h (subst (λ f. IsAtGoal c.args.machine.now a c.args.place f c.args.behind raw) c.in-Not.is at) in
    (r.0, r.1 c.args.constants.now, r.2)

pub returns-in_ok-turn-in_default-clause-denies : goal.returns-in_ok-turn-in_default-clause-denies
returns-in_ok-turn-in_default-clause-denies g c = λ qv a raw s h at df.
    absurd (no_denied_first c.args.machine.now a c.args.place c.args.goal c.args.behind raw at c.in_default.not-Not df)

pub returns-in_ok-turn-in-Atom-clause-denied_stays : goal.returns-in_ok-turn-in-Atom-clause-denied_stays
returns-in_ok-turn-in-Atom-clause-denied_stays g c = λ a raw at df.
    let y = c.in-Atom.is in
    absurd (no_denied_first c.args.machine.now a c.args.place c.args.goal c.args.behind raw at (λ l f z. cc) df)

pub returns-in_ok-turn-in-Cut-clause-denied_stays : goal.returns-in_ok-turn-in-Cut-clause-denied_stays
returns-in_ok-turn-in-Cut-clause-denied_stays g c = λ a raw at df.
    let y = c.in-Cut.is in
    absurd (no_denied_first c.args.machine.now a c.args.place c.args.goal c.args.behind raw at (λ l f z. cc) df)

pub returns-in_ok-turn-in-Not-clause-denied_stays : goal.returns-in_ok-turn-in-Not-clause-denied_stays
returns-in_ok-turn-in-Not-clause-denied_stays g c = λ a raw at df ar st w sw on.
    c.in_ok-turn-in-Not.ensures.written on ar st (not_written c.args.machine.now ar c.args.place c.in-Not.goals c.in-Not.free
    (subst (IsWrittenFlat c.args.machine.now ar c.args.place) c.in-Not.is w)) sw

pub returns-in_ok-turn-in_default-clause-denied_stays : goal.returns-in_ok-turn-in_default-clause-denied_stays
returns-in_ok-turn-in_default-clause-denied_stays g c = λ a raw at df.
    absurd (no_denied_first c.args.machine.now a c.args.place c.args.goal c.args.behind raw at c.in_default.not-Not df)

pub returns-in_err-atom-in-Atom-clause-begins : goal.returns-in_err-atom-in-Atom-clause-begins
returns-in_err-atom-in-Atom-clause-begins g c = λ qv a raw s h at w. inl refl

pub returns-in_err-turn-in-Atom-clause-begins : goal.returns-in_err-turn-in-Atom-clause-begins
returns-in_err-turn-in-Atom-clause-begins g c = λ qv a raw s h at w.
    let m = c.args.machine.now in
    let n = c.instance.new.self in
    let p = c.args.place in
    let e = c.in_ok-atom-in-Atom.ensures in
    let at' = subst (λ f. IsAtGoal m a p f c.args.behind raw) c.in-Atom.is at in
    let w' = subst (IsWrittenFlat m qv.arity p) c.in-Atom.is w in
    c.take_term.ensures.begins qv a raw s (running_on m n e.bank qv a raw s h p at'.place)
    (instance_at m n e.bank p c.in-Atom.term c.in_ok-atom-in-Atom.atom e.within e.tree a c.args.behind raw h.above.done.stands at' qv.arity w')

pub returns-in_ok-turn-in-Atom-clause-begins : goal.returns-in_ok-turn-in-Atom-clause-begins
returns-in_ok-turn-in-Atom-clause-begins g c = λ qv a raw s h at w.
    let m = c.args.machine.now in
    let n = c.instance.new.self in
    let p = c.args.place in
    let e = c.in_ok-atom-in-Atom.ensures in
    let at' = subst (λ f. IsAtGoal m a p f c.args.behind raw) c.in-Atom.is at in
    let w' = subst (IsWrittenFlat m qv.arity p) c.in-Atom.is w in
    c.take_term.ensures.begins qv a raw s (running_on m n e.bank qv a raw s h p at'.place)
    (instance_at m n e.bank p c.in-Atom.term c.in_ok-atom-in-Atom.atom e.within e.tree a c.args.behind raw h.above.done.stands at' qv.arity w')

pub returns-in_err-turn-in-Cut-clause-begins : goal.returns-in_err-turn-in-Cut-clause-begins
returns-in_err-turn-in-Cut-clause-begins g c = λ qv a raw s h at w.
    c.take_cut.ensures.begins qv a raw s h (subst (λ f. IsAtGoal c.args.machine.now a c.args.place f c.args.behind raw) c.in-Cut.is at) c.args.constants.now

pub returns-in_ok-turn-in-Cut-clause-begins : goal.returns-in_ok-turn-in-Cut-clause-begins
returns-in_ok-turn-in-Cut-clause-begins g c = λ qv a raw s h at w.
    c.take_cut.ensures.begins qv a raw s h (subst (λ f. IsAtGoal c.args.machine.now a c.args.place f c.args.behind raw) c.in-Cut.is at) c.args.constants.now

pub returns-in_err-turn-in-Not-clause-begins : goal.returns-in_err-turn-in-Not-clause-begins
returns-in_err-turn-in-Not-clause-begins g c = λ qv a raw s h at w.
    c.take_not.ensures.begins qv a raw s h (subst (λ f. IsAtGoal c.args.machine.now a c.args.place f c.args.behind raw) c.in-Not.is at) c.args.constants.now

pub returns-in_ok-turn-in-Not-clause-begins : goal.returns-in_ok-turn-in-Not-clause-begins
returns-in_ok-turn-in-Not-clause-begins g c = λ qv a raw s h at w.
    c.take_not.ensures.begins qv a raw s h (subst (λ f. IsAtGoal c.args.machine.now a c.args.place f c.args.behind raw) c.in-Not.is at) c.args.constants.now

pub returns-in_err-turn-in_default-clause-begins : goal.returns-in_err-turn-in_default-clause-begins
returns-in_err-turn-in_default-clause-begins g c = λ qv a raw s h at w. inl refl

pub returns-in_ok-turn-in_default-clause-begins : goal.returns-in_ok-turn-in_default-clause-begins
returns-in_ok-turn-in_default-clause-begins g c = λ qv a raw s h at w. inl refl

pub returns-in_ok-turn-in-Atom-clause-within : goal.returns-in_ok-turn-in-Atom-clause-within
returns-in_ok-turn-in-Atom-clause-within g c = λ qv a raw s h at w.
    let m = c.args.machine.now in
    let n = c.instance.new.self in
    let p = c.args.place in
    let e = c.in_ok-atom-in-Atom.ensures in
    let at' = subst (λ f. IsAtGoal m a p f c.args.behind raw) c.in-Atom.is at in
    let w' = subst (IsWrittenFlat m qv.arity p) c.in-Atom.is w in
    counts_from m n c.take_term.new.machine s (ap (λ z. z.counts.steps) e.bank.same) (c.in_ok-turn-in-Atom.ensures.within qv a raw s (running_on m n e.bank qv a raw s h p at'.place)
    (instance_at m n e.bank p c.in-Atom.term c.in_ok-atom-in-Atom.atom e.within e.tree a c.args.behind raw h.above.done.stands at' qv.arity w'))

pub returns-in_ok-turn-in-Cut-clause-within : goal.returns-in_ok-turn-in-Cut-clause-within
returns-in_ok-turn-in-Cut-clause-within g c = λ qv a raw s h at w.
    c.in_ok-turn-in-Cut.ensures.within qv a raw s h (subst (λ f. IsAtGoal c.args.machine.now a c.args.place f c.args.behind raw) c.in-Cut.is at)

pub returns-in_ok-turn-in-Not-clause-within : goal.returns-in_ok-turn-in-Not-clause-within
returns-in_ok-turn-in-Not-clause-within g c = λ qv a raw s h at w.
    c.in_ok-turn-in-Not.ensures.within qv a raw s h (subst (λ f. IsAtGoal c.args.machine.now a c.args.place f c.args.behind raw) c.in-Not.is at)

pub returns-in_ok-turn-in_default-clause-within : goal.returns-in_ok-turn-in_default-clause-within
returns-in_ok-turn-in_default-clause-within g c = λ qv a raw s h at w.
    inl (apart_steps c.in_ok-turn-in_default.turn c.args.machine.now.counts c.put_parts.new.machine.counts (c.in_ok-turn-in_default.ensures.counted qv.arity w))

pub returns-in_ok-turn-in-Atom-clause-uses : goal.returns-in_ok-turn-in-Atom-clause-uses
returns-in_ok-turn-in-Atom-clause-uses g c = λ e.
    let o = c.in_ok-atom-in-Atom.ensures.bank.same in
    used_from c.args.machine.now c.instance.new.self c.take_term.new.machine (ap (λ z. z.counts) o) (ap (λ z. z.choices.items) o) (c.in_ok-turn-in-Atom.ensures.uses e)

pub returns-in_ok-turn-in-Cut-clause-uses : goal.returns-in_ok-turn-in-Cut-clause-uses
returns-in_ok-turn-in-Cut-clause-uses g c = c.in_ok-turn-in-Cut.ensures.uses

pub returns-in_ok-turn-in-Not-clause-uses : goal.returns-in_ok-turn-in-Not-clause-uses
returns-in_ok-turn-in-Not-clause-uses g c = c.in_ok-turn-in-Not.ensures.uses

pub returns-in_ok-turn-in_default-clause-uses : goal.returns-in_ok-turn-in_default-clause-uses
returns-in_ok-turn-in_default-clause-uses g c = c.in_ok-turn-in_default.ensures.uses
