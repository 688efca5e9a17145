use Rattle.std.proofs.Common.{◌≡◌, ◌∙◌, refl, sym}
use Rattle.lp_plain.specs.declared.outcome.Turn.{Turn}
use Rattle.lp_plain.specs.Moving.{MovesTo, quiet}
use Rattle.lp_plain.proofs.Hearing.{plus_none}
use Rattle.lp_plain.proofs.AnswerMoves.{answer_moved}
use Rattle.lp_plain.proofs.AtGoals.{at_frame, frame_there, none_plain, term_plain}
use Rattle.std.proofs.Common.{subst}
use Rattle.lp_plain.specs.Apart.{IsApart}
use Rattle.lp_plain.specs.Entries.{Reads}
use Rattle.lp_plain.proofs.Counted.{counted_branch, counted_state}
use Rattle.lp_plain.specs.Marks.{PutsAside, PutsMarks}
use Rattle.lp_plain.proofs.Marked.{branch_aside, branch_marked}
use Rattle.lp_plain.proofs.Marking.{marked_turn}
use Rattle.lp_plain.proofs.FirstGoals.{branch_taken, term_first, term_taken}
use Rattle.lp_plain.proofs.QuietMoves.{quiet_move}
use Rattle.lp_plain.proofs.Following.{moved_stands}
use Rattle.lp_plain.specs.Between.{HasClauses}
use Rattle.lp_plain.specs.WrittenSearch.{IsWrittenSearch}
use Rattle.lp_plain.proofs.FirstKinds.{a_not, a_plain, an_atom, first_kind}
use Rattle.lp_plain.proofs.Led.{behind_written, led_stands}
use Rattle.lp_plain.proofs.ProgramKept.{clauses_on}
use Rattle.lp_plain.proofs.Treated.{a_number, alone_turn, goals_some, inner_turn, no_number, none_waits, number_of}
use Rattle.lp_plain.proofs.WrittenFirst.{branch_written, none_at_hand, term_at_hand}
use Rattle.lp_plain.specs.AtRunTime.{IsAtomFirst}
use Rattle.lp_plain.proofs.AtomAtHand.{frame_written, goals_written, none_atom, term_at}
use Rattle.lp_plain.proofs.DenyFirst.{none_denied_first, term_denied}
use Rattle.lp_plain.proofs.DenyStands.{denied_stands, held_stands}
use Rattle.lp_plain.proofs.Beginning.{first_part}
use Rattle.lp_plain.proofs.HeardParts.{part_none}
use Rattle.std.proofs.Common.{arith}
use Rattle.lp_plain.proofs.Beginning.{first_within}
use Rattle.lp_plain.proofs.Remains.{back_same, uses_less}
use Rattle.lp_plain.proofs.turn.take_goal.Goals as goal

pub returns-in_ok-turn-in-Goals-clause-moves : goal.returns-in_ok-turn-in-Goals-clause-moves
returns-in_ok-turn-in-Goals-clause-moves g c = λ e a s h f k ea go u n P.
    let m = c.args.machine.now in
    quiet_move m c.take_first.new.machine a s h k ea go u n P
    (branch_taken m c.take_first.new.machine c.in-Some.number c.in-Some-found.frame c.in-Goals.goals c.in-Some.is (sym c.frame-found.ensures ∙ c.in-Some-found.is) c.in-Goals.is (c.in_ok-turn-in-Goals.ensures.taken e)) f

pub returns-in_ok-turn-in-Goals-clause-stops : goal.returns-in_ok-turn-in-Goals-clause-stops
returns-in_ok-turn-in-Goals-clause-stops g c = λ a s h f ar w.
    let m = c.args.machine.now in
    let n = c.take_first.new.machine in
    let turn = c.in_ok-turn-in-Goals.turn in
    counted_state m turn n.counts a s h f
    (counted_branch m c.in-Some.number c.in-Some-found.frame c.in-Goals.goals (IsApart turn m.counts n.counts) c.in-Some.is (sym c.frame-found.ensures ∙ c.in-Some-found.is)
    c.in-Goals.is (λ hs l ag fa. c.in_ok-turn-in-Goals.ensures.counted hs l ag fa ar (goals_written m c.in-Some.number c.in-Some-found.frame (sym c.frame-found.ensures ∙ c.in-Some-found.is) c.in-Goals.goals c.in-Goals.is ar w))
    a h.at_work h.search.stands h.search.branch f)

pub returns-in_ok-turn-in-Term-clause-moves : goal.returns-in_ok-turn-in-Term-clause-moves
returns-in_ok-turn-in-Term-clause-moves g c = λ e a s h f k ea go u n P.
    let m = c.args.machine.now in
    quiet_move m c.take_term.new.machine a s h k ea go u n P (term_taken m c.take_term.new.machine c.in-Some.number c.in-Some-found.frame
    c.in-Term.term c.in-Some.is (sym c.frame-found.ensures ∙ c.in-Some-found.is) c.in-Term.is) f

pub returns-in_ok-turn-in-Term-clause-stops : goal.returns-in_ok-turn-in-Term-clause-stops
returns-in_ok-turn-in-Term-clause-stops g c = λ a s h f ar w.
    let m = c.args.machine.now in
    absurd (term_first m a c.in-Some.number c.in-Some-found.frame (sym c.frame-found.ensures ∙ c.in-Some-found.is) c.in-Term.term h.at_work.goals c.in-Term.is
    (subst (λ o. Reads m a o h.at_work.goals) c.in-Some.is h.search.branch.goals) f)

pub returns-in_ok-turn-in-Goals-clause-marks : goal.returns-in_ok-turn-in-Goals-clause-marks
returns-in_ok-turn-in-Goals-clause-marks g c = λ e a s h f.
    let m = c.args.machine.now in
    let n = c.take_first.new.machine in
    let frame = c.in-Some-found.frame in
    branch_marked m n c.in-Some.number frame n.branch.goals c.in-Some.is (sym c.frame-found.ensures ∙ c.in-Some-found.is)
    (counted_branch m c.in-Some.number frame c.in-Goals.goals (PutsMarks m n frame.place frame.behind n.branch.goals) c.in-Some.is
    (sym c.frame-found.ensures ∙ c.in-Some-found.is) c.in-Goals.is (c.in_ok-turn-in-Goals.ensures.marks e) a h.at_work h.search.stands h.search.branch f)

pub returns-in_ok-turn-in-Term-clause-marks : goal.returns-in_ok-turn-in-Term-clause-marks
returns-in_ok-turn-in-Term-clause-marks g c = λ e a s h f l u k.
    let m = c.args.machine.now in
    absurd (term_first m a c.in-Some.number c.in-Some-found.frame (sym c.frame-found.ensures ∙ c.in-Some-found.is) c.in-Term.term h.at_work.goals c.in-Term.is
    (subst (λ o. Reads m a o h.at_work.goals) c.in-Some.is h.search.branch.goals) f)

pub returns-in_ok-turn-in-Goals-clause-aside : goal.returns-in_ok-turn-in-Goals-clause-aside
returns-in_ok-turn-in-Goals-clause-aside g c = λ e a s h f.
    let m = c.args.machine.now in
    let n = c.take_first.new.machine in
    let frame = c.in-Some-found.frame in
    branch_aside m n c.in-Some.number frame c.in-Some.is (sym c.frame-found.ensures ∙ c.in-Some-found.is)
    (counted_branch m c.in-Some.number frame c.in-Goals.goals (PutsAside m n frame.place frame.behind) c.in-Some.is (sym c.frame-found.ensures ∙ c.in-Some-found.is)
    c.in-Goals.is (c.in_ok-turn-in-Goals.ensures.aside e) a h.at_work h.search.stands h.search.branch f)

pub returns-in_ok-turn-in-Term-clause-aside : goal.returns-in_ok-turn-in-Term-clause-aside
returns-in_ok-turn-in-Term-clause-aside g c = λ e a s h f.
    let m = c.args.machine.now in
    absurd (term_first m a c.in-Some.number c.in-Some-found.frame (sym c.frame-found.ensures ∙ c.in-Some-found.is) c.in-Term.term h.at_work.goals c.in-Term.is
    (subst (λ o. Reads m a o h.at_work.goals) c.in-Some.is h.search.branch.goals) f)

pub returns-in_ok-turn-in-Goals-clause-marked : goal.returns-in_ok-turn-in-Goals-clause-marked
returns-in_ok-turn-in-Goals-clause-marked g c = λ e a s h f im.
    let m = c.args.machine.now in
    let n = c.take_first.new.machine in
    marked_turn m n a s h im
    (branch_taken m n c.in-Some.number c.in-Some-found.frame c.in-Goals.goals c.in-Some.is (sym c.frame-found.ensures ∙ c.in-Some-found.is) c.in-Goals.is (c.in_ok-turn-in-Goals.ensures.taken e))
    f (returns-in_ok-turn-in-Goals-clause-marks g c e a s h f) (returns-in_ok-turn-in-Goals-clause-aside g c e a s h f)

pub returns-in_ok-turn-in-Term-clause-marked : goal.returns-in_ok-turn-in-Term-clause-marked
returns-in_ok-turn-in-Term-clause-marked g c = λ e a s h f im.
    let m = c.args.machine.now in
    absurd (term_first m a c.in-Some.number c.in-Some-found.frame (sym c.frame-found.ensures ∙ c.in-Some-found.is) c.in-Term.term h.at_work.goals c.in-Term.is
    (subst (λ o. Reads m a o h.at_work.goals) c.in-Some.is h.search.branch.goals) f)

pub returns-in_default-clause-moved : goal.returns-in_default-clause-moved
returns-in_default-clause-moved g c = λ qv s h pf w. absurd (none_plain qv c.args.machine.now s h c.in_default.is pf)

pub returns-in_ok-turn-in-Goals-clause-moved : goal.returns-in_ok-turn-in-Goals-clause-moved
returns-in_ok-turn-in-Goals-clause-moved g c = λ qv s h pf w.
    let m = c.args.machine.now in
    c.in_ok-turn-in-Goals.ensures.moved qv h.around h.raw s h.running (at_frame qv m s h c.in-Some.number c.in-Some-found.frame c.in-Some.is (sym c.frame-found.ensures ∙ c.in-Some-found.is) c.in-Goals.goals c.in-Goals.is) pf
    (frame_written qv m s h c.in-Some.number c.in-Some-found.frame c.in-Some.is (sym c.frame-found.ensures ∙ c.in-Some-found.is) c.in-Goals.goals c.in-Goals.is qv.arity w)

pub returns-in_ok-turn-in-Term-clause-moved : goal.returns-in_ok-turn-in-Term-clause-moved
returns-in_ok-turn-in-Term-clause-moved g c = λ qv s h pf w. absurd (term_plain qv c.args.machine.now s h c.in-Some.number c.in-Some-found.frame
    c.in-Some.is (sym c.frame-found.ensures ∙ c.in-Some-found.is) c.in-Term.term c.in-Term.is pf)

pub returns-in_default-clause-answered : goal.returns-in_default-clause-answered
returns-in_default-clause-answered g c = λ qv s h e d.
    let m = c.args.machine.now in
    let q = c.end_branch.ensures.answered d in (
      q,
      (c.end_branch.ensures.steps ∙ plus_none m.counts.steps, refl),
      subst (λ x. MovesTo quiet qv x c.end_branch.new.machine s) (sym q)
          (subst (λ n. MovesTo quiet qv Turn.Answered n s) (sym (c.end_branch.ensures.same d)) (answer_moved qv m s h e)),
    )

pub returns-in_ok-turn-in-Goals-clause-answered : goal.returns-in_ok-turn-in-Goals-clause-answered
returns-in_ok-turn-in-Goals-clause-answered g c = λ qv s h e d. let y = c.in-Some.is in absurd (cc)

pub returns-in_ok-turn-in-Term-clause-answered : goal.returns-in_ok-turn-in-Term-clause-answered
returns-in_ok-turn-in-Term-clause-answered g c = λ qv s h e d. let y = c.in-Some.is in absurd (cc)

pub returns-in_ok-turn-in-Goals-clause-written : goal.returns-in_ok-turn-in-Goals-clause-written
returns-in_ok-turn-in-Goals-clause-written g c = λ e h ar i w.
    branch_written c.args.machine.now c.take_first.new.machine c.in-Some.number c.in-Some-found.frame c.in-Goals.goals c.in-Some.is
    (sym c.frame-found.ensures ∙ c.in-Some-found.is) c.in-Goals.is (c.in_ok-turn-in-Goals.ensures.written e) h ar i w

pub returns-in_ok-turn-in-Term-clause-written : goal.returns-in_ok-turn-in-Term-clause-written
returns-in_ok-turn-in-Term-clause-written g c = λ e h ar i w. absurd (term_at_hand c.args.machine.now c.in-Some.number c.in-Some-found.frame
    c.in-Term.term c.in-Some.is (sym c.frame-found.ensures ∙ c.in-Some-found.is) c.in-Term.is h)

pub returns-in_default-clause-written : goal.returns-in_default-clause-written
returns-in_default-clause-written g c = λ e h ar i w. absurd (none_at_hand c.args.machine.now c.in_default.is h)

pub returns-in_default-clause-leads : goal.returns-in_default-clause-leads
returns-in_default-clause-leads g c = λ qv s h af w. absurd (none_atom qv c.args.machine.now s h c.in_default.is af)

pub returns-in_ok-turn-in-Goals-clause-leads : goal.returns-in_ok-turn-in-Goals-clause-leads
returns-in_ok-turn-in-Goals-clause-leads g c = λ qv s h af w.
    let m = c.args.machine.now in
    c.in_ok-turn-in-Goals.ensures.leads qv h.around h.raw s h.running (at_frame qv m s h c.in-Some.number c.in-Some-found.frame c.in-Some.is (sym c.frame-found.ensures ∙ c.in-Some-found.is) c.in-Goals.goals c.in-Goals.is) af
    (frame_written qv m s h c.in-Some.number c.in-Some-found.frame c.in-Some.is (sym c.frame-found.ensures ∙ c.in-Some-found.is) c.in-Goals.goals c.in-Goals.is qv.arity w)

pub returns-in_ok-turn-in-Term-clause-leads : goal.returns-in_ok-turn-in-Term-clause-leads
returns-in_ok-turn-in-Term-clause-leads g c = λ qv s h af w.
    c.in_ok-turn-in-Term.ensures.leads qv h.around h.raw s h.running (term_at qv c.args.machine.now s h c.in-Some.number c.in-Some-found.frame
    c.in-Some.is (sym c.frame-found.ensures ∙ c.in-Some-found.is) c.in-Term.term c.in-Term.is)

pub returns-in_default-clause-stands : goal.returns-in_default-clause-stands
returns-in_default-clause-stands g c = λ k x h.
    let m = c.args.machine.now in
    let n = c.end_branch.new.machine in
    let qv = h.0 in
    let s = h.1 in
    let st = h.3 in
    let e = c.end_branch.ensures in
    elim (number_of m.denied) [
      | no_number d ↦
          (let a = returns-in_default-clause-answered g c qv s st c.in_default.is d in
          let alone = none_waits qv.arity m st.around m.denied qv.outer d st.running.above.inside.outer in (
            quiet,
            a.1,
            moved_stands k qv n h.2 c.end_branch.result quiet (λ y. subst (HasClauses k.program k.query.arity) (sym (e.same d)) h.5) s x
                (alone_turn qv.outer c.end_branch.result alone) a.2 h.4,
          ))
      | a_number i d ↦ (
        quiet,
        (e.steps ∙ plus_none m.counts.steps, refl),
        held_stands k qv n s h.2 x h.4 c.end_branch.result (e.held qv s st c.in_default.is i d)
            (λ y. clauses_on k.program k.query.arity m n e.program (e.written k.query.arity st.running.above.done.stands h.5.written) h.5),
      )
    ]

pub returns-in_ok-turn-in-Goals-clause-stands : goal.returns-in_ok-turn-in-Goals-clause-stands
returns-in_ok-turn-in-Goals-clause-stands g c = λ k x h.
    let m = c.args.machine.now in
    let n = c.take_first.new.machine in
    let qv = h.0 in
    let s = h.1 in
    let st = h.3 in
    let cl = h.5 in
    let turn = c.in_ok-turn-in-Goals.turn in
    let e = c.in_ok-turn-in-Goals.ensures in
    let at = at_frame qv m s st c.in-Some.number c.in-Some-found.frame c.in-Some.is (sym c.frame-found.ensures ∙ c.in-Some-found.is) c.in-Goals.goals c.in-Goals.is in
    let w = subst (IsWrittenSearch m) (sym h.2.0) cl.written in
    elim (first_kind st.raw.goals (goals_some m st.around c.in-Some-found.frame.place c.in-Goals.goals c.in-Some-found.frame.behind st.raw at)) [
      | a_plain pf ↦
          let p = returns-in_ok-turn-in-Goals-clause-moved g c qv s st pf w in (
            p.0,
            p.1,
            moved_stands k qv n h.2 turn p.0
                (λ y. clauses_on k.program k.query.arity m n e.program
                (behind_written turn n k.query.arity y (e.stays st.around st.raw at pf k.query.arity st.running.above.done.stands
                (frame_written qv m s st c.in-Some.number c.in-Some-found.frame c.in-Some.is (sym c.frame-found.ensures ∙ c.in-Some-found.is) c.in-Goals.goals c.in-Goals.is k.query.arity cl.written) cl.written)) cl)
                s x (inner_turn qv.outer turn e.ends) p.2 h.4,
          )
      | an_atom af ↦ (let p = returns-in_ok-turn-in-Goals-clause-leads g c qv s st af w in (p.0, p.1, led_stands k qv m n h.2 e.program cl turn p.0 s x (inner_turn qv.outer turn e.ends) p.2 h.4))
      | a_not nf ↦
          let p = e.denies qv st.around st.raw s st.running at nf in (
            p.0,
            p.1,
            denied_stands k qv n s h.2 x h.4 m st turn p.0 p.2 e.ends
                (λ y. clauses_on k.program k.query.arity m n e.program (e.denied_stays st.around st.raw at nf k.query.arity st.running.above.done.stands
                (frame_written qv m s st c.in-Some.number c.in-Some-found.frame c.in-Some.is (sym c.frame-found.ensures ∙ c.in-Some-found.is) c.in-Goals.goals c.in-Goals.is k.query.arity cl.written) cl.written y) cl),
          )
    ]

pub returns-in_ok-turn-in-Term-clause-stands : goal.returns-in_ok-turn-in-Term-clause-stands
returns-in_ok-turn-in-Term-clause-stands g c = λ k x h.
    let m = c.args.machine.now in
    let n = c.take_term.new.machine in
    let qv = h.0 in
    let s = h.1 in
    let st = h.3 in
    let turn = c.in_ok-turn-in-Term.turn in
    let at = term_at qv m s st c.in-Some.number c.in-Some-found.frame c.in-Some.is (sym c.frame-found.ensures ∙ c.in-Some-found.is) c.in-Term.term c.in-Term.is in
    let p = returns-in_ok-turn-in-Term-clause-leads g c qv s st (subst IsAtomFirst (sym at.goals) tt) (subst (IsWrittenSearch m) (sym h.2.0) h.5.written) in
    (p.0, p.1, led_stands k qv m n h.2 c.in_ok-turn-in-Term.ensures.program h.5 turn p.0 s x (inner_turn qv.outer turn c.in_ok-turn-in-Term.ensures.ends) p.2 h.4)

pub returns-in_default-clause-denies : goal.returns-in_default-clause-denies
returns-in_default-clause-denies g c = λ qv s h df. absurd (none_denied_first qv c.args.machine.now s h c.in_default.is df)

pub returns-in_ok-turn-in-Goals-clause-denies : goal.returns-in_ok-turn-in-Goals-clause-denies
returns-in_ok-turn-in-Goals-clause-denies g c = λ qv s h df.
    let m = c.args.machine.now in
    c.in_ok-turn-in-Goals.ensures.denies qv h.around h.raw s h.running (at_frame qv m s h c.in-Some.number c.in-Some-found.frame c.in-Some.is (sym c.frame-found.ensures ∙ c.in-Some-found.is) c.in-Goals.goals c.in-Goals.is) df

pub returns-in_ok-turn-in-Term-clause-denies : goal.returns-in_ok-turn-in-Term-clause-denies
returns-in_ok-turn-in-Term-clause-denies g c = λ qv s h df. absurd (term_denied qv c.args.machine.now s h c.in-Some.number c.in-Some-found.frame
    c.in-Some.is (sym c.frame-found.ensures ∙ c.in-Some-found.is) c.in-Term.term c.in-Term.is df)

pub returns-in_default-clause-held : goal.returns-in_default-clause-held
returns-in_default-clause-held g c = λ qv s h none number inside. ((c.end_branch.ensures.steps ∙ plus_none c.args.machine.now.counts.steps, refl), c.end_branch.ensures.held qv s h none number inside)

pub returns-in_ok-turn-in-Goals-clause-held : goal.returns-in_ok-turn-in-Goals-clause-held
returns-in_ok-turn-in-Goals-clause-held g c = λ qv s h none number inside. let y = c.in-Some.is in absurd (cc)

pub returns-in_ok-turn-in-Term-clause-held : goal.returns-in_ok-turn-in-Term-clause-held
returns-in_ok-turn-in-Term-clause-held g c = λ qv s h none number inside. let y = c.in-Some.is in absurd (cc)

pub returns-in_default-clause-begins : goal.returns-in_default-clause-begins
returns-in_default-clause-begins g c = λ k x h. part_none c.args.constants.now x.notes _ _ refl

pub returns-in_err-turn-in-Goals-clause-begins : goal.returns-in_err-turn-in-Goals-clause-begins
returns-in_err-turn-in-Goals-clause-begins g c = λ k x h.
    let m = c.args.machine.now in
    let qv = h.0 in
    let s = h.1 in
    let st = h.3 in
    let at = at_frame qv m s st c.in-Some.number c.in-Some-found.frame c.in-Some.is (sym c.frame-found.ensures ∙ c.in-Some-found.is) c.in-Goals.goals c.in-Goals.is in
    let w = subst (IsWrittenSearch m) (sym h.2.0) h.5.written in
    first_part k c.args.constants.now qv.outer x s _ _ h.4
    (c.take_first.ensures.begins qv st.around st.raw s st.running at
    (frame_written qv m s st c.in-Some.number c.in-Some-found.frame c.in-Some.is (sym c.frame-found.ensures ∙ c.in-Some-found.is) c.in-Goals.goals c.in-Goals.is qv.arity w))

pub returns-in_ok-turn-in-Goals-clause-begins : goal.returns-in_ok-turn-in-Goals-clause-begins
returns-in_ok-turn-in-Goals-clause-begins g c = λ k x h.
    let m = c.args.machine.now in
    let qv = h.0 in
    let s = h.1 in
    let st = h.3 in
    let at = at_frame qv m s st c.in-Some.number c.in-Some-found.frame c.in-Some.is (sym c.frame-found.ensures ∙ c.in-Some-found.is) c.in-Goals.goals c.in-Goals.is in
    let w = subst (IsWrittenSearch m) (sym h.2.0) h.5.written in
    first_part k c.args.constants.now qv.outer x s _ _ h.4
    (c.take_first.ensures.begins qv st.around st.raw s st.running at
    (frame_written qv m s st c.in-Some.number c.in-Some-found.frame c.in-Some.is (sym c.frame-found.ensures ∙ c.in-Some-found.is) c.in-Goals.goals c.in-Goals.is qv.arity w))

pub returns-in_err-turn-in-Term-clause-begins : goal.returns-in_err-turn-in-Term-clause-begins
returns-in_err-turn-in-Term-clause-begins g c = λ k x h.
    let qv = h.0 in
    let s = h.1 in
    let st = h.3 in
    first_part k c.args.constants.now qv.outer x s _ _ h.4
    (c.take_term.ensures.begins qv st.around st.raw s st.running (term_at qv c.args.machine.now s st c.in-Some.number c.in-Some-found.frame
    c.in-Some.is (sym c.frame-found.ensures ∙ c.in-Some-found.is) c.in-Term.term c.in-Term.is))

pub returns-in_ok-turn-in-Term-clause-begins : goal.returns-in_ok-turn-in-Term-clause-begins
returns-in_ok-turn-in-Term-clause-begins g c = λ k x h.
    let qv = h.0 in
    let s = h.1 in
    let st = h.3 in
    first_part k c.args.constants.now qv.outer x s _ _ h.4
    (c.take_term.ensures.begins qv st.around st.raw s st.running (term_at qv c.args.machine.now s st c.in-Some.number c.in-Some-found.frame
    c.in-Some.is (sym c.frame-found.ensures ∙ c.in-Some-found.is) c.in-Term.term c.in-Term.is))

pub returns-in_default-clause-within : goal.returns-in_default-clause-within
returns-in_default-clause-within g c = λ k x h. let e = c.end_branch.ensures.steps in omega (arith, e)

pub returns-in_ok-turn-in-Goals-clause-within : goal.returns-in_ok-turn-in-Goals-clause-within
returns-in_ok-turn-in-Goals-clause-within g c = λ k x h.
    let m = c.args.machine.now in
    let qv = h.0 in
    let s = h.1 in
    let st = h.3 in
    let at = at_frame qv m s st c.in-Some.number c.in-Some-found.frame c.in-Some.is (sym c.frame-found.ensures ∙ c.in-Some-found.is) c.in-Goals.goals c.in-Goals.is in
    let w = subst (IsWrittenSearch m) (sym h.2.0) h.5.written in
    first_within k qv.outer x s m c.take_first.new.machine h.4
    (c.in_ok-turn-in-Goals.ensures.within qv st.around st.raw s st.running at
    (frame_written qv m s st c.in-Some.number c.in-Some-found.frame c.in-Some.is (sym c.frame-found.ensures ∙ c.in-Some-found.is) c.in-Goals.goals c.in-Goals.is qv.arity w))

pub returns-in_ok-turn-in-Term-clause-within : goal.returns-in_ok-turn-in-Term-clause-within
returns-in_ok-turn-in-Term-clause-within g c = λ k x h.
    let m = c.args.machine.now in
    let qv = h.0 in
    let s = h.1 in
    let st = h.3 in
    first_within k qv.outer x s m c.take_term.new.machine h.4
    (c.in_ok-turn-in-Term.ensures.within qv st.around st.raw s st.running (term_at qv m s st c.in-Some.number c.in-Some-found.frame c.in-Some.is (sym c.frame-found.ensures ∙ c.in-Some-found.is) c.in-Term.term c.in-Term.is))

pub returns-in_default-found-clause-written : goal.returns-in_default-found-clause-written
returns-in_default-found-clause-written g c = λ e h ar i w. absurd (let q : Turn.Back ≡ Turn.On = e in cc)

pub returns-in_default-found-clause-moves : goal.returns-in_default-found-clause-moves
returns-in_default-found-clause-moves g c = λ e a s h f k ea go u n P. absurd (let q : Turn.Back ≡ Turn.On = e in cc)

pub returns-in_default-found-clause-stops : goal.returns-in_default-found-clause-stops
returns-in_default-found-clause-stops g c = λ a s h f ar w. absurd (frame_there c.args.machine.now a c.in-Some.number h.search.branch.goals c.in-Some.is (sym c.frame-found.ensures ∙ c.in_default-found.is))

pub returns-in_default-found-clause-marks : goal.returns-in_default-found-clause-marks
returns-in_default-found-clause-marks g c = λ e a s h f l u k. absurd (let q : Turn.Back ≡ Turn.On = e in cc)

pub returns-in_default-found-clause-aside : goal.returns-in_default-found-clause-aside
returns-in_default-found-clause-aside g c = λ e a s h f. absurd (let q : Turn.Back ≡ Turn.On = e in cc)

pub returns-in_default-found-clause-marked : goal.returns-in_default-found-clause-marked
returns-in_default-found-clause-marked g c = λ e a s h f im. absurd (let q : Turn.Back ≡ Turn.On = e in cc)

pub returns-in_default-found-clause-answered : goal.returns-in_default-found-clause-answered
returns-in_default-found-clause-answered g c = λ qv s h e d. let y = c.in-Some.is in absurd (cc)

pub returns-in_default-found-clause-moved : goal.returns-in_default-found-clause-moved
returns-in_default-found-clause-moved g c = λ qv s h pf w. absurd (frame_there c.args.machine.now h.around c.in-Some.number h.goals c.in-Some.is (sym c.frame-found.ensures ∙ c.in_default-found.is))

pub returns-in_default-found-clause-stands : goal.returns-in_default-found-clause-stands
returns-in_default-found-clause-stands g c = λ k x h. absurd (frame_there c.args.machine.now h.3.around c.in-Some.number h.3.goals c.in-Some.is (sym c.frame-found.ensures ∙ c.in_default-found.is))

pub returns-in_default-found-clause-leads : goal.returns-in_default-found-clause-leads
returns-in_default-found-clause-leads g c = λ qv s h af w. absurd (frame_there c.args.machine.now h.around c.in-Some.number h.goals c.in-Some.is (sym c.frame-found.ensures ∙ c.in_default-found.is))

pub returns-in_default-found-clause-denies : goal.returns-in_default-found-clause-denies
returns-in_default-found-clause-denies g c = λ qv s h df. absurd (frame_there c.args.machine.now h.around c.in-Some.number h.goals c.in-Some.is (sym c.frame-found.ensures ∙ c.in_default-found.is))

pub returns-in_default-found-clause-held : goal.returns-in_default-found-clause-held
returns-in_default-found-clause-held g c = λ qv s h none number inside. let y = c.in-Some.is in absurd (cc)

pub returns-in_default-found-clause-begins : goal.returns-in_default-found-clause-begins
returns-in_default-found-clause-begins g c = λ k x h. part_none c.args.constants.now x.notes _ _ refl

pub returns-in_default-found-clause-within : goal.returns-in_default-found-clause-within
returns-in_default-found-clause-within g c = λ k x h. omega arith

pub returns-in_default-clause-less : goal.returns-in_default-clause-less
returns-in_default-clause-less g c = c.end_branch.ensures.less

pub returns-in_default-found-clause-less : goal.returns-in_default-found-clause-less
returns-in_default-found-clause-less g c = back_same c.args.machine.now c.args.machine.now refl (omega arith)

pub returns-in_ok-turn-in-Goals-clause-less : goal.returns-in_ok-turn-in-Goals-clause-less
returns-in_ok-turn-in-Goals-clause-less g c = c.in_ok-turn-in-Goals.ensures.less

pub returns-in_ok-turn-in-Term-clause-less : goal.returns-in_ok-turn-in-Term-clause-less
returns-in_ok-turn-in-Term-clause-less g c = uses_less c.in_ok-turn-in-Term.turn c.args.machine.now c.take_term.new.machine c.in_ok-turn-in-Term.ensures.uses
