use Rattle.lp_plain.specs.Moving.{quiet}
use Rattle.std.proofs.Common.{◌≡◌, ◌∙◌, true, false, refl, sym, ap, subst}
use Rattle.lp_model.specs.declared.ending.Ending.TheVariants.{NoMore, NoMoreCut}
use Rattle.lp_plain.specs.declared.choice.Untried.{Untried}
use Rattle.lp_plain.specs.declared.outcome.Turn.{Turn}
use Rattle.lp_plain.specs.Moving.{IsTrying}
use Rattle.lp_plain.proofs.Backwards.{back_marked, back_state, ends_so}
use Rattle.lp_plain.proofs.Restored.{goes_back}
use Rattle.lp_plain.specs.WrittenSearch.{IsWrittenSearch}
use Rattle.lp_plain.proofs.Following.{moved_stands, none_both}
use Rattle.lp_plain.proofs.Led.{led_to}
use Rattle.lp_plain.proofs.ProgramKept.{clauses_on, goals_keep, program_then, taken_keeps}
use Rattle.lp_plain.proofs.Treated.{alone_turn, back_alone, has_last, has_none, inner_turn, last_of}
use Rattle.lp_plain.proofs.BackMoves.{none_moved, side_state}
use Rattle.lp_plain.proofs.WrittenFirst.{back_written}
use Rattle.lp_plain.proofs.WrittenSearches.{search_back}
use Rattle.lp_plain.proofs.RefutedMoves.{by_end, last_above}
use Rattle.lp_plain.proofs.DenyStands.{refuted_stands}
use Rattle.std.proofs.Common.{arith}
use Rattle.std.specs.Prelude.{IfSome}
use Rattle.lp_plain.specs.inner.Remaining.{IsPopped, remaining}
use Rattle.lp_plain.proofs.Remains.{popped_denied, popped_on, popped_tried}
use Rattle.lp_plain.proofs.turn.go_back.Goals as goal

pub returns-in_ok-go_right-in-Goals-clause-goes : goal.returns-in_ok-go_right-in-Goals-clause-goes
returns-in_ok-go_right-in-Goals-clause-goes c = λ k rest from e u.
    let t = c.in_ok-untried.ensures.taken k rest e in
    let g = c.in_ok-go_right-in-Goals.ensures in
    let q : c.in-Goals.goals ≡ from = (let z = t.0 in let y = c.in-Goals.is in cc) in
    (refl, goes_back c.args.machine.now c.take_choice.new.self c.go_right.new.machine k rest from u t.1 g.known (g.goals ∙ q) g.next g.next_type g.choices g.counts g.denied)

pub returns-in_ok-turn-in-Clauses-clause-goes : goal.returns-in_ok-turn-in-Clauses-clause-goes
returns-in_ok-turn-in-Clauses-clause-goes c = λ k rest from e u.
    let t = c.in_ok-untried.ensures.taken k rest e in
    let z = t.0 in
    let y = c.in-Clauses.is in
    absurd (cc)

pub returns-in-Denied-clause-goes : goal.returns-in-Denied-clause-goes
returns-in-Denied-clause-goes c = λ k rest from e u.
    let t = c.in_ok-untried.ensures.taken k rest e in
    let z = t.0 in
    let y = c.in-Denied.is in
    absurd (cc)

pub returns-in_ok-go_right-in-Goals-clause-state : goal.returns-in_ok-go_right-in-Goals-clause-state
returns-in_ok-go_right-in-Goals-clause-state c = λ k rest from e u l a s h.
    let m = c.args.machine.now in
    let n = c.take_choice.new.self in
    let q = c.go_right.new.machine in
    let t = c.in_ok-untried.ensures.taken k rest e in
    let g = c.in_ok-go_right-in-Goals.ensures in
    let z = returns-in_ok-go_right-in-Goals-clause-goes c k rest from e u in
    back_state m n q k rest from e u l t.1 z.1 g.known g.assumed g.frames g.denied a s h

pub returns-in_ok-turn-in-Clauses-clause-state : goal.returns-in_ok-turn-in-Clauses-clause-state
returns-in_ok-turn-in-Clauses-clause-state c = λ k rest from e u l a s h.
    let t = c.in_ok-untried.ensures.taken k rest e in
    let z = t.0 in
    let y = c.in-Clauses.is in
    absurd (cc)

pub returns-in-Denied-clause-state : goal.returns-in-Denied-clause-state
returns-in-Denied-clause-state c = λ k rest from e u l a s h.
    let t = c.in_ok-untried.ensures.taken k rest e in
    let z = t.0 in
    let y = c.in-Denied.is in
    absurd (cc)

pub returns-in_ok-go_right-in-Goals-clause-ends : goal.returns-in_ok-go_right-in-Goals-clause-ends
returns-in_ok-go_right-in-Goals-clause-ends c = λ e a s h. let y = c.in_ok-untried.ensures.none e in absurd (cc)

pub returns-in_ok-turn-in-Clauses-clause-ends : goal.returns-in_ok-turn-in-Clauses-clause-ends
returns-in_ok-turn-in-Clauses-clause-ends c = λ e a s h. let y = c.in_ok-untried.ensures.none e in absurd (cc)

pub returns-in-Denied-clause-ends : goal.returns-in-Denied-clause-ends
returns-in-Denied-clause-ends c = λ e a s h. let y = c.in_ok-untried.ensures.none e in absurd (cc)

pub returns-then-machine-clause-ends : goal.returns-then-machine-clause-ends
returns-then-machine-clause-ends c = λ e a s h. ends_so c.args.machine.now a s true e (sym c.in_ok-untried.ensures.lost ∙ c.if-machine.true) h

pub returns-in_default-clause-ends : goal.returns-in_default-clause-ends
returns-in_default-clause-ends c = λ e a s h. ends_so c.args.machine.now a s false e (sym c.in_ok-untried.ensures.lost ∙ c.if-machine.false) h

pub returns-in_ok-go_right-in-Goals-clause-marked : goal.returns-in_ok-go_right-in-Goals-clause-marked
returns-in_ok-go_right-in-Goals-clause-marked c = λ k rest from e u l a s h am.
    let m = c.args.machine.now in
    let q = c.go_right.new.machine in
    let t = c.in_ok-untried.ensures.taken k rest e in
    let g = c.in_ok-go_right-in-Goals.ensures in
    let z = returns-in_ok-go_right-in-Goals-clause-goes c k rest from e u in
    let w : c.in-Goals.goals ≡ from = (let z = t.0 in let y = c.in-Goals.is in cc) in
    back_marked m q k rest from e u l (ap (λ v. v.items) g.frames ∙ t.1.frames) (g.goals ∙ w) z.1.choices z.1.denied a s h am

pub returns-in_ok-turn-in-Clauses-clause-marked : goal.returns-in_ok-turn-in-Clauses-clause-marked
returns-in_ok-turn-in-Clauses-clause-marked c = λ k rest from e u l a s h am.
    let t = c.in_ok-untried.ensures.taken k rest e in
    let z = t.0 in
    let y = c.in-Clauses.is in
    absurd (cc)

pub returns-in-Denied-clause-marked : goal.returns-in-Denied-clause-marked
returns-in-Denied-clause-marked c = λ k rest from e u l a s h am.
    let t = c.in_ok-untried.ensures.taken k rest e in
    let z = t.0 in
    let y = c.in-Denied.is in
    absurd (cc)

pub returns-in_ok-go_right-in-Goals-clause-resumed : goal.returns-in_ok-go_right-in-Goals-clause-resumed
returns-in_ok-go_right-in-Goals-clause-resumed c = λ qv k rest from e u l s h.
    let m = c.args.machine.now in
    let n = c.take_choice.new.self in
    let q = c.go_right.new.machine in
    let t = c.in_ok-untried.ensures.taken k rest e in
    let g = c.in_ok-go_right-in-Goals.ensures in
    let z = returns-in_ok-go_right-in-Goals-clause-goes c k rest from e u in
    side_state qv m n q k rest from e u l t.1 z.1 g.known g.assumed g.frames g.pairs s h

pub returns-in_ok-turn-in-Clauses-clause-resumed : goal.returns-in_ok-turn-in-Clauses-clause-resumed
returns-in_ok-turn-in-Clauses-clause-resumed c = λ qv k rest from e u l s h.
    let t = c.in_ok-untried.ensures.taken k rest e in
    let z = t.0 in
    let y = c.in-Clauses.is in
    absurd (cc)

pub returns-in-Denied-clause-resumed : goal.returns-in-Denied-clause-resumed
returns-in-Denied-clause-resumed c = λ qv k rest from e u l s h.
    let t = c.in_ok-untried.ensures.taken k rest e in
    let z = t.0 in
    let y = c.in-Denied.is in
    absurd (cc)

pub returns-in_ok-go_right-in-Goals-clause-moved : goal.returns-in_ok-go_right-in-Goals-clause-moved
returns-in_ok-go_right-in-Goals-clause-moved c = λ qv e s h. let y = c.in_ok-untried.ensures.none e in absurd (cc)

pub returns-in_ok-turn-in-Clauses-clause-moved : goal.returns-in_ok-turn-in-Clauses-clause-moved
returns-in_ok-turn-in-Clauses-clause-moved c = λ qv e s h. let y = c.in_ok-untried.ensures.none e in absurd (cc)

pub returns-in-Denied-clause-moved : goal.returns-in-Denied-clause-moved
returns-in-Denied-clause-moved c = λ qv e s h. let y = c.in_ok-untried.ensures.none e in absurd (cc)

pub returns-then-machine-clause-moved : goal.returns-then-machine-clause-moved
returns-then-machine-clause-moved c = λ qv e s h. none_moved qv c.args.machine.now c.args.machine.now s true e (sym c.in_ok-untried.ensures.lost ∙ c.if-machine.true) h

pub returns-in_default-clause-moved : goal.returns-in_default-clause-moved
returns-in_default-clause-moved c = λ qv e s h. none_moved qv c.args.machine.now c.args.machine.now s false e (sym c.in_ok-untried.ensures.lost ∙ c.if-machine.false) h

pub returns-in_ok-turn-in-Clauses-clause-leads : goal.returns-in_ok-turn-in-Clauses-clause-leads
returns-in_ok-turn-in-Clauses-clause-leads c = λ k rest call one e u l qv s h w.
    let n = c.take_choice.new.self in
    let o = c.in_ok-untried.ensures in
    let t = o.taken k rest e in
    let same : Untried.Clauses c.in-Clauses.call c.in-Clauses.candidate ≡ Untried.Clauses call one = (let z = t.0 in let y = c.in-Clauses.is in cc) in
    let sc : c.in-Clauses.call ≡ call = cc in
    let so : c.in-Clauses.candidate ≡ one = cc in
    c.in_ok-turn-in-Clauses.ensures.leads qv h.around s
    (subst (λ x. IsTrying qv n h.around x c.in-Clauses.candidate s) (sym sc) (subst (λ x. IsTrying qv n h.around call x s) (sym so) (o.trying qv k rest call one e u l s h)))
    (search_back c.args.machine.now n k rest e t.1 qv.arity w).at_work

pub returns-in_ok-go_right-in-Goals-clause-leads : goal.returns-in_ok-go_right-in-Goals-clause-leads
returns-in_ok-go_right-in-Goals-clause-leads c = λ k rest call one e u l qv s h w.
    let t = c.in_ok-untried.ensures.taken k rest e in
    let z = t.0 in
    let y = c.in-Goals.is in
    absurd (cc)

pub returns-in-Denied-clause-leads : goal.returns-in-Denied-clause-leads
returns-in-Denied-clause-leads c = λ k rest call one e u l qv s h w.
    let t = c.in_ok-untried.ensures.taken k rest e in
    let z = t.0 in
    let y = c.in-Denied.is in
    absurd (cc)

pub returns-in_ok-go_right-in-Goals-clause-written : goal.returns-in_ok-go_right-in-Goals-clause-written
returns-in_ok-go_right-in-Goals-clause-written c = λ k rest from e u ar i w.
    let t = c.in_ok-untried.ensures.taken k rest e in
    let g = c.in_ok-go_right-in-Goals.ensures in
    back_written c.args.machine.now c.take_choice.new.self c.go_right.new.machine k rest e t.1 g.known g.frames g.assumed g.choices ar i w

pub returns-in_ok-turn-in-Clauses-clause-written : goal.returns-in_ok-turn-in-Clauses-clause-written
returns-in_ok-turn-in-Clauses-clause-written c = λ k rest from e u ar i w.
    let t = c.in_ok-untried.ensures.taken k rest e in
    let z = t.0 in
    let y = c.in-Clauses.is in
    absurd (cc)

pub returns-in-Denied-clause-written : goal.returns-in-Denied-clause-written
returns-in-Denied-clause-written c = λ k rest from e u ar i w.
    let t = c.in_ok-untried.ensures.taken k rest e in
    let z = t.0 in
    let y = c.in-Denied.is in
    absurd (cc)

pub returns-in_ok-turn-in-Clauses-clause-tries_written : goal.returns-in_ok-turn-in-Clauses-clause-tries_written
returns-in_ok-turn-in-Clauses-clause-tries_written c = λ k rest call one e u l qv s h w.
    let n = c.take_choice.new.self in
    let o = c.in_ok-untried.ensures in
    let t = o.taken k rest e in
    let same : Untried.Clauses c.in-Clauses.call c.in-Clauses.candidate ≡ Untried.Clauses call one = (let z = t.0 in let y = c.in-Clauses.is in cc) in
    let sc : c.in-Clauses.call ≡ call = cc in
    let so : c.in-Clauses.candidate ≡ one = cc in
    c.in_ok-turn-in-Clauses.ensures.written qv h.around s
    (subst (λ x. IsTrying qv n h.around x c.in-Clauses.candidate s) (sym sc) (subst (λ x. IsTrying qv n h.around call x s) (sym so) (o.trying qv k rest call one e u l s h)))
    (search_back c.args.machine.now n k rest e t.1 qv.arity w)

pub returns-then-machine-clause-stands : goal.returns-then-machine-clause-stands
returns-then-machine-clause-stands c = λ k x h.
    let m = c.args.machine.now in
    let qv = h.0 in
    let s = h.1 in
    elim (last_of m.choices.items) [
      | has_none e ↦ moved_stands k qv m h.2 (Turn.Ended NoMoreCut) quiet (λ y. absurd y) s x
          (alone_turn qv.outer (Turn.Ended NoMoreCut) (back_alone qv m s h.3 e)) (returns-then-machine-clause-moved c qv e s h.3) h.4
      | has_last ys y e ↦ absurd (let z = (c.in_ok-untried.ensures.taken y ys e).0 in let w = c.in_default.is in cc)
    ]

pub returns-in_default-clause-stands : goal.returns-in_default-clause-stands
returns-in_default-clause-stands c = λ k x h.
    let m = c.args.machine.now in
    let qv = h.0 in
    let s = h.1 in
    elim (last_of m.choices.items) [
      | has_none e ↦ moved_stands k qv m h.2 (Turn.Ended NoMore) quiet (λ y. absurd y) s x (alone_turn qv.outer (Turn.Ended NoMore) (back_alone qv m s h.3 e))
          (returns-in_default-clause-moved c qv e s h.3) h.4
      | has_last ys y e ↦ absurd (let z = (c.in_ok-untried.ensures.taken y ys e).0 in let w = c.in_default.is in cc)
    ]

pub returns-in_ok-go_right-in-Goals-clause-stands : goal.returns-in_ok-go_right-in-Goals-clause-stands
returns-in_ok-go_right-in-Goals-clause-stands c = λ k x h.
    let m = c.args.machine.now in
    let n = c.take_choice.new.self in
    let q = c.go_right.new.machine in
    let qv = h.0 in
    let s = h.1 in
    elim (last_of m.choices.items) [
      | has_none e ↦ absurd (let z = c.in_ok-untried.ensures.none e in let w = c.in-Some.is in cc)
      | has_last ys y e ↦
          (let o = c.in_ok-untried.ensures.taken y ys e in
          let z = o.0 in
          let w = c.in-Goals.is in
          let v = c.in-Some.is in
          let u : y.untried ≡ Untried.Goals c.in-Goals.goals = cc in
          let low = last_above qv m s h.3 ys y e (λ d x. (let p : Untried.Denied d ≡ Untried.Goals c.in-Goals.goals = sym x ∙ u in absurd (cc))) in
          let written = returns-in_ok-go_right-in-Goals-clause-written c y ys c.in-Goals.goals e u k.query.arity h.3.above.done.stands h.5.written in (
            x,
            sym (none_both x),
            (
              qv,
              s,
              h.2,
              returns-in_ok-go_right-in-Goals-clause-resumed c qv y ys c.in-Goals.goals e u low s h.3,
              h.4,
              clauses_on k.program k.query.arity m q (program_then m n q (taken_keeps m n y ys o.1) (goals_keep n q c.in_ok-go_right-in-Goals.ensures.known)) written h.5,
            ),
          ))
    ]

pub returns-in_ok-turn-in-Clauses-clause-stands : goal.returns-in_ok-turn-in-Clauses-clause-stands
returns-in_ok-turn-in-Clauses-clause-stands c = λ k x h.
    let m = c.args.machine.now in
    let n = c.take_choice.new.self in
    let q = c.try_candidate.new.machine in
    let qv = h.0 in
    let s = h.1 in
    let turn = c.in_ok-turn-in-Clauses.turn in
    elim (last_of m.choices.items) [
      | has_none e ↦ absurd (let z = c.in_ok-untried.ensures.none e in let w = c.in-Some.is in cc)
      | has_last ys y e ↦
          (let o = c.in_ok-untried.ensures.taken y ys e in
          let z = o.0 in
          let w = c.in-Clauses.is in
          let v = c.in-Some.is in
          let u : y.untried ≡ Untried.Clauses c.in-Clauses.call c.in-Clauses.candidate = cc in
          let low = last_above qv m s h.3 ys y e (λ d x. (let p : Untried.Denied d ≡ Untried.Clauses c.in-Clauses.call c.in-Clauses.candidate = sym x ∙ u in absurd (cc))) in
          let sw = subst (IsWrittenSearch m) (sym h.2.0) h.5.written in
          led_to k qv m q h.2 (program_then m n q (taken_keeps m n y ys o.1) c.in_ok-turn-in-Clauses.ensures.program) h.5 turn quiet s x (inner_turn qv.outer turn c.in_ok-turn-in-Clauses.ensures.ends)
          (returns-in_ok-turn-in-Clauses-clause-leads c y ys c.in-Clauses.call c.in-Clauses.candidate e u low qv s h.3 sw)
          (returns-in_ok-turn-in-Clauses-clause-tries_written c y ys c.in-Clauses.call c.in-Clauses.candidate e u low qv s h.3 sw) h.4)
    ]

pub returns-in-Denied-clause-denied_written : goal.returns-in-Denied-clause-denied_written
returns-in-Denied-clause-denied_written c = λ k rest d e u ar w.
    let t = c.in_ok-untried.ensures.taken k rest e in
    c.end_denial.ensures.written ar (search_back c.args.machine.now c.take_choice.new.self k rest e t.1 ar w)

pub returns-in-Denied-clause-refuted : goal.returns-in-Denied-clause-refuted
returns-in-Denied-clause-refuted c = λ k rest d e u qv s h.
    let m = c.args.machine.now in
    let t = c.in_ok-untried.ensures.taken k rest e in
    let v : k.untried ≡ Untried.Denied c.in-Denied.denial = (let z = t.0 in let y = c.in-Denied.is in let x = c.in-Some.is in cc) in
    let r = c.end_denial.ensures in
    by_end qv m s h k rest e c.take_choice.new.self t.1 c.end_denial.new.machine c.in-Denied.denial v r.only c.end_denial.result
    c.take_choice.new.self.counts.lost refl (ap (λ z. z.lost) (sym t.1.counts)) r.cut r.holds

pub returns-in-Denied-clause-stands : goal.returns-in-Denied-clause-stands
returns-in-Denied-clause-stands c = λ k x h.
    let m = c.args.machine.now in
    let n = c.take_choice.new.self in
    let q = c.end_denial.new.machine in
    let qv = h.0 in
    let s = h.1 in
    elim (last_of m.choices.items) [
      | has_none e ↦ absurd (let z = c.in_ok-untried.ensures.none e in let w = c.in-Some.is in cc)
      | has_last ys y e ↦
          (let o = c.in_ok-untried.ensures.taken y ys e in
          let z = o.0 in
          let w = c.in-Denied.is in
          let v = c.in-Some.is in
          let u : y.untried ≡ Untried.Denied c.in-Denied.denial = cc in
          refuted_stands k qv q s h.2 x h.4 c.end_denial.result (returns-in-Denied-clause-refuted c y ys c.in-Denied.denial e u qv s h.3)
          (λ x. clauses_on k.program k.query.arity m q (program_then m n q (taken_keeps m n y ys o.1) c.end_denial.ensures.program)
          (returns-in-Denied-clause-denied_written c y ys c.in-Denied.denial e u k.query.arity h.5.written) h.5))
    ]

pub returns-in_ok-go_right-in-Goals-clause-tries_written : goal.returns-in_ok-go_right-in-Goals-clause-tries_written
returns-in_ok-go_right-in-Goals-clause-tries_written c = λ k rest call one e u l qv s h w.
    let t = c.in_ok-untried.ensures.taken k rest e in
    let z = t.0 in
    let y = c.in-Goals.is in
    absurd (cc)

pub returns-in-Denied-clause-tries_written : goal.returns-in-Denied-clause-tries_written
returns-in-Denied-clause-tries_written c = λ k rest call one e u l qv s h w.
    let t = c.in_ok-untried.ensures.taken k rest e in
    let z = t.0 in
    let y = c.in-Denied.is in
    absurd (cc)

pub returns-in_ok-turn-in-Clauses-clause-denied_written : goal.returns-in_ok-turn-in-Clauses-clause-denied_written
returns-in_ok-turn-in-Clauses-clause-denied_written c = λ k rest d e u ar w.
    let t = c.in_ok-untried.ensures.taken k rest e in
    let z = t.0 in
    let y = c.in-Clauses.is in
    absurd (cc)

pub returns-in_ok-go_right-in-Goals-clause-denied_written : goal.returns-in_ok-go_right-in-Goals-clause-denied_written
returns-in_ok-go_right-in-Goals-clause-denied_written c = λ k rest d e u ar w.
    let t = c.in_ok-untried.ensures.taken k rest e in
    let z = t.0 in
    let y = c.in-Goals.is in
    absurd (cc)

pub returns-then-machine-clause-refuted : goal.returns-then-machine-clause-refuted
returns-then-machine-clause-refuted c = λ k rest d e u. absurd (let z = (c.in_ok-untried.ensures.taken k rest e).0 in let w = c.in_default.is in cc)

pub returns-in_default-clause-refuted : goal.returns-in_default-clause-refuted
returns-in_default-clause-refuted c = λ k rest d e u. absurd (let z = (c.in_ok-untried.ensures.taken k rest e).0 in let w = c.in_default.is in cc)

pub returns-in_ok-go_right-in-Goals-clause-refuted : goal.returns-in_ok-go_right-in-Goals-clause-refuted
returns-in_ok-go_right-in-Goals-clause-refuted c = λ k rest d e u.
    let z = (c.in_ok-untried.ensures.taken k rest e).0 in
    let y = c.in-Goals.is in
    absurd (cc)

pub returns-in_ok-turn-in-Clauses-clause-refuted : goal.returns-in_ok-turn-in-Clauses-clause-refuted
returns-in_ok-turn-in-Clauses-clause-refuted c = λ k rest d e u.
    let z = (c.in_ok-untried.ensures.taken k rest e).0 in
    let y = c.in-Clauses.is in
    absurd (cc)

pub returns-in_ok-go_right-in-Goals-clause-steps : goal.returns-in_ok-go_right-in-Goals-clause-steps
returns-in_ok-go_right-in-Goals-clause-steps c = ap (λ z. z.steps) c.in_ok-go_right-in-Goals.ensures.counts ∙ c.in_ok-untried.ensures.steps

pub returns-in_ok-turn-in-Clauses-clause-steps : goal.returns-in_ok-turn-in-Clauses-clause-steps
returns-in_ok-turn-in-Clauses-clause-steps c = c.in_ok-turn-in-Clauses.ensures.steps ∙ c.in_ok-untried.ensures.steps

pub returns-in-Denied-clause-steps : goal.returns-in-Denied-clause-steps
returns-in-Denied-clause-steps c = c.end_denial.ensures.steps ∙ c.in_ok-untried.ensures.steps

pub returns-then-machine-clause-less : goal.returns-then-machine-clause-less
returns-then-machine-clause-less c = omega arith

pub returns-in_default-clause-less : goal.returns-in_default-clause-less
returns-in_default-clause-less c = omega arith

pub returns-in_ok-go_right-in-Goals-clause-less : goal.returns-in_ok-go_right-in-Goals-clause-less
returns-in_ok-go_right-in-Goals-clause-less c =
    let m = c.args.machine.now in
    let k = c.take_choice.new.self in
    let n = c.go_right.new.machine in
    let e = c.in_ok-go_right-in-Goals.ensures in
    popped_on m k n c.in-Some.untried (subst (λ o. IfSome o (IsPopped m k)) c.in-Some.is c.in_ok-untried.ensures.popped) (ap remaining e.counts) e.choices

pub returns-in_ok-turn-in-Clauses-clause-less : goal.returns-in_ok-turn-in-Clauses-clause-less
returns-in_ok-turn-in-Clauses-clause-less c =
    let m = c.args.machine.now in
    let k = c.take_choice.new.self in
    popped_tried c.in_ok-turn-in-Clauses.turn m k c.try_candidate.new.machine c.in-Some.untried c.in-Clauses.call c.in-Clauses.candidate
    (subst (λ o. IfSome o (IsPopped m k)) c.in-Some.is c.in_ok-untried.ensures.popped) c.in-Clauses.is c.in_ok-turn-in-Clauses.ensures.spent

pub returns-in-Denied-clause-less : goal.returns-in-Denied-clause-less
returns-in-Denied-clause-less c =
    let m = c.args.machine.now in
    let k = c.take_choice.new.self in
    let e = c.end_denial.ensures in
    popped_denied c.end_denial.result m k c.end_denial.new.machine c.in-Some.untried c.in-Denied.denial
    (subst (λ o. IfSome o (IsPopped m k)) c.in-Some.is c.in_ok-untried.ensures.popped) e.only e.cut e.holds
