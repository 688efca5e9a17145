use Rattle.std.proofs.Common.{◌+◌, ◌∙◌, ap, refl}
use Rattle.lp_plain.specs.Calling.{LeadsOf, TellsOn}
use Rattle.lp_plain.specs.Hearing.{HeardBy}
use Rattle.lp_plain.specs.Moving.{quiet}
use Rattle.lp_plain.proofs.Hearing.{apart_steps, plus_none}
use Rattle.std.proofs.Common.{subst}
use Rattle.lp_model.specs.declared.ending.Ending.TheVariants.{Deep}
use Rattle.lp_plain.specs.declared.outcome.Turn.{Turn}
use Rattle.lp_plain.specs.HeadLooks.{LooksAt}
use Rattle.lp_plain.specs.Trying.{all_clauses}
use Rattle.lp_plain.proofs.CallArm.{over_one}
use Rattle.lp_plain.proofs.CallTerms.{only_program, only_written}
use Rattle.lp_plain.proofs.LookedOn.{deep_look}
use Rattle.lp_plain.proofs.ProgramKept.{only_keeps, program_then}
use Rattle.lp_plain.proofs.TermTurns.{atom_turn, connective_turn}
use Rattle.lp_plain.proofs.WrittenTurns.{bound_stands, only_bound}
use Rattle.std.proofs.Common.{inl}
use Rattle.lp_plain.specs.inner.Beginning.{HearsFirst}
use Rattle.lp_plain.specs.inner.Beginning.{CountsFirst}
use Rattle.lp_plain.proofs.Beginning.{counts_from}
use Rattle.lp_plain.proofs.Remains.{used_from}
use Rattle.lp_plain.proofs.turn.take_term.Goals as goal

pub returns-in_default-clause-leads : goal.returns-in_default-clause-leads
returns-in_default-clause-leads g c = λ qv a raw s h at.
    let m = c.args.machine.now in
    let n = c.head_normal.new.machine in (
      quiet,
      (ap (λ z. z.counts.steps) c.in_ok-goal.ensures.bank.same ∙ plus_none m.counts.steps, refl),
      λ css pr sw. over_one quiet qv (Turn.Ended Deep) n s (deep_look qv m n a raw s h c.args.place c.args.term c.args.behind at
          (subst (LooksAt m n c.args.term) c.in_default.is c.in_ok-goal.ensures.looks) quiet) tt (all_clauses css),
    )

pub returns-then-is_apart-clause-leads : goal.returns-then-is_apart-clause-leads
returns-then-is_apart-clause-leads g c = λ qv a raw s h at.
    let m = c.args.machine.now in
    let n = c.head_normal.new.machine in
    let only = c.in_ok-goal.ensures.bank in
    let e = c.in_ok-turn.ensures in
    let k = c.connective_of-connective.ensures in
    let af = c.is_apart.ensures.apart c.if-is_apart.true in
    let st = h.above.done.stands in (
      quiet,
      (apart_steps c.in_ok-turn.turn n.counts c.put_connective.new.machine.counts e.counted ∙ ap (λ z. z.counts.steps) only.same ∙ plus_none m.counts.steps, refl),
      λ css pr sw. connective_turn qv m n only a raw s h c.args.place c.args.term c.in-Some.goal c.args.behind at
          (subst (LooksAt m n c.args.term) c.in-Some.is c.in_ok-goal.ensures.looks) c.put_connective.new.machine
          c.connective_of-connective.result k.tree k.within af c.in_ok-turn.turn e.counted (λ q. e.taken q af) (λ q. e.none q af) (λ q. e.aside_with q af)
          (λ q i. e.written q af qv.arity (bound_stands m n (only_bound m n only) st) i (only_written m n only st qv.arity sw)) (all_clauses css),
    )

pub returns-clause-leads : goal.returns-clause-leads
returns-clause-leads g c = λ qv a raw s h at.
    let m = c.args.machine.now in
    let n = c.head_normal.new.machine in
    let only = c.in_ok-goal.ensures.bank in
    let k = c.connective_of-connective.ensures in
    let f = c.in_ok-form.ensures in
    let i = f.form k.tree (c.is_apart.ensures.alone c.if-is_apart.false n.bank) in
    atom_turn qv m n only a raw s h c.args.place c.args.term c.in-Some.goal c.args.behind at (subst (LooksAt m n c.args.term) c.in-Some.is c.in_ok-goal.ensures.looks)
    (TellsOn (HeardBy c.args.constants.now m c.take_atom.new.machine _ _) (λ x. LeadsOf x m c.take_atom.new.machine qv c.in_ok-turn-2.turn s))
    (λ h' at'. (let r = c.in_ok-turn-2.ensures.leads qv a raw s h' at' i f.stands f.within in
    (r.0, (r.1.0 ∙ ap (λ z. z.counts.steps + r.0.steps) only.same, r.1.1), λ css pr sw. r.2 css (only_program m n only qv.arity css pr) (only_written m n only h.above.done.stands qv.arity sw))))

pub returns-in_default-clause-program : goal.returns-in_default-clause-program
returns-in_default-clause-program g c = only_keeps c.args.machine.now c.head_normal.new.machine c.in_ok-goal.ensures.bank

pub returns-then-is_apart-clause-program : goal.returns-then-is_apart-clause-program
returns-then-is_apart-clause-program g c =
    let m = c.args.machine.now in
    let n = c.head_normal.new.machine in
    program_then m n c.put_connective.new.machine (only_keeps m n c.in_ok-goal.ensures.bank) c.in_ok-turn.ensures.program

pub returns-clause-program : goal.returns-clause-program
returns-clause-program g c =
    let m = c.args.machine.now in
    let n = c.head_normal.new.machine in
    program_then m n c.take_atom.new.machine (only_keeps m n c.in_ok-goal.ensures.bank) c.in_ok-turn-2.ensures.program

pub returns-then-is_apart-clause-ends : goal.returns-then-is_apart-clause-ends
returns-then-is_apart-clause-ends g c = c.in_ok-turn.ensures.ends

pub returns-clause-ends : goal.returns-clause-ends
returns-clause-ends g c = c.in_ok-turn-2.ensures.ends

pub returns-in_err-goal-clause-begins : goal.returns-in_err-goal-clause-begins
returns-in_err-goal-clause-begins g c = λ qv a raw s h at. inl refl

pub returns-in_default-clause-begins : goal.returns-in_default-clause-begins
returns-in_default-clause-begins g c = λ qv a raw s h at. inl refl

pub returns-in_err-turn-clause-begins : goal.returns-in_err-turn-clause-begins
returns-in_err-turn-clause-begins g c = λ qv a raw s h at. inl refl

pub returns-then-is_apart-clause-begins : goal.returns-then-is_apart-clause-begins
returns-then-is_apart-clause-begins g c = λ qv a raw s h at. inl refl

pub returns-in_err-form-clause-begins : goal.returns-in_err-form-clause-begins
returns-in_err-form-clause-begins g c = λ qv a raw s h at. inl refl

pub returns-in_err-turn-2-clause-begins : goal.returns-in_err-turn-2-clause-begins
returns-in_err-turn-2-clause-begins g c = λ qv a raw s h at.
    let m = c.args.machine.now in
    let n = c.head_normal.new.machine in
    let k = c.connective_of-connective.ensures in
    let i = c.in_ok-form.ensures.form k.tree (c.is_apart.ensures.alone c.if-is_apart.false n.bank) in
    atom_turn qv m n c.in_ok-goal.ensures.bank a raw s h c.args.place c.args.term c.in-Some.goal c.args.behind at (subst (LooksAt m n c.args.term) c.in-Some.is c.in_ok-goal.ensures.looks)
    (HearsFirst c.args.constants.now _ _ s) (λ h' at'. c.take_atom.ensures.begins qv a raw s h' at' i)

pub returns-clause-begins : goal.returns-clause-begins
returns-clause-begins g c = λ qv a raw s h at.
    let m = c.args.machine.now in
    let n = c.head_normal.new.machine in
    let k = c.connective_of-connective.ensures in
    let i = c.in_ok-form.ensures.form k.tree (c.is_apart.ensures.alone c.if-is_apart.false n.bank) in
    atom_turn qv m n c.in_ok-goal.ensures.bank a raw s h c.args.place c.args.term c.in-Some.goal c.args.behind at (subst (LooksAt m n c.args.term) c.in-Some.is c.in_ok-goal.ensures.looks)
    (HearsFirst c.args.constants.now _ _ s) (λ h' at'. c.take_atom.ensures.begins qv a raw s h' at' i)

pub returns-in_default-clause-within : goal.returns-in_default-clause-within
returns-in_default-clause-within g c = λ qv a raw s h at. inl (ap (λ z. z.counts.steps) c.in_ok-goal.ensures.bank.same)

pub returns-then-is_apart-clause-within : goal.returns-then-is_apart-clause-within
returns-then-is_apart-clause-within g c = λ qv a raw s h at.
    inl (apart_steps c.in_ok-turn.turn c.head_normal.new.machine.counts c.put_connective.new.machine.counts c.in_ok-turn.ensures.counted ∙ ap (λ z. z.counts.steps) c.in_ok-goal.ensures.bank.same)

pub returns-clause-within : goal.returns-clause-within
returns-clause-within g c = λ qv a raw s h at.
    let m = c.args.machine.now in
    let n = c.head_normal.new.machine in
    let q = c.take_atom.new.machine in
    let only = c.in_ok-goal.ensures.bank in
    let k = c.connective_of-connective.ensures in
    let i = c.in_ok-form.ensures.form k.tree (c.is_apart.ensures.alone c.if-is_apart.false n.bank) in
    atom_turn qv m n only a raw s h c.args.place c.args.term c.in-Some.goal c.args.behind at (subst (LooksAt m n c.args.term) c.in-Some.is c.in_ok-goal.ensures.looks)
    (CountsFirst m q s) (λ h' at'. counts_from m n q s (ap (λ z. z.counts.steps) only.same) (c.in_ok-turn-2.ensures.within qv a raw s h' at' i))

pub returns-in_default-clause-uses : goal.returns-in_default-clause-uses
returns-in_default-clause-uses g c = λ e. absurd e

pub returns-then-is_apart-clause-uses : goal.returns-then-is_apart-clause-uses
returns-then-is_apart-clause-uses g c = λ e.
    let o = c.in_ok-goal.ensures.bank.same in
    used_from c.args.machine.now c.head_normal.new.machine c.put_connective.new.machine (ap (λ z. z.counts) o) (ap (λ z. z.choices.items) o) (c.in_ok-turn.ensures.uses e)

pub returns-clause-uses : goal.returns-clause-uses
returns-clause-uses g c = λ e.
    let o = c.in_ok-goal.ensures.bank.same in
    used_from c.args.machine.now c.head_normal.new.machine c.take_atom.new.machine (ap (λ z. z.counts) o) (ap (λ z. z.choices.items) o) (c.in_ok-turn-2.ensures.uses e)
