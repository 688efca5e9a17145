use Rattle.std.proofs.Common.{true≢false, [], suc, ◌∷◌, ◌<◌, ◌≡◌, ◌∙◌, ap, arith, length, map, subst, sym}
use Rattle.lp_term.specs.Nodes.{Extends}
use Rattle.lp_watch.specs.Crowd.{places}
use Rattle.lp_model.specs.Skeleton.{AnswerNote}
use Rattle.lp_plain.specs.HeadLooks.{with_bank}
use Rattle.lp_plain.specs.Hearing.{HeardBy}
use Rattle.lp_plain.specs.Held.{constants_of, ended, steps_of}
use Rattle.std.specs.Prelude.{IfSome, IsSome}
use Rattle.lp_plain.specs.Moving.{IsAnswer, Tally, both}
use Rattle.lp_plain.specs.Telling.{IsAnswerOf}
use Rattle.lp_plain.specs.inner.Between.{rested}
use Rattle.lp_plain.specs.inner.Following.{Rests, turn_told}
use Rattle.lp_plain.proofs.Between.{answer_between, answer_noted, answer_rested, answer_told, over_is, same_count}
use Rattle.lp_plain.proofs.Hearing.{heard_more, plus_none}
use Rattle.lp_plain.specs.Hearing.{HearsPart}
use Rattle.lp_plain.proofs.HeardParts.{parts_behind}
use Rattle.lp_plain.proofs.search.Search.go_on.Goals as goal

pub returns-in-Ended-clause-search : goal.returns-in-Ended-clause-search
unfolding ended constants_of steps_of
returns-in-Ended-clause-search g c = λ k x it st en.
    let s = c.args.self.now in
    let old = places c.args.crowd.now.texts.items (map g.W.Watch.seen c.args.crowd.now.watchers.now.items) in
    let new = places c.run.new.crowd.texts.items (map g.W.Watch.seen c.run.new.crowd.watchers.now.items) in
    let p = c.in_ok-found.ensures.stands k x st in
    let heard = subst (λ l. HeardBy l s.machine c.run.new.machine old new p.0) c.as_slice.ensures.value p.1 in
    over_is k x p.0 (HeardBy s.constants.items s.machine c.end.new.self.machine old new)
    (c.end.ensures.steps ∙ heard.0, heard.1) s c.end.new.self c.end.result c.in-Ended.ending c.end.ensures.is c.end.ensures.now it
    (subst (λ z. Rests k x p.0 (turn_told z) c.run.new.machine) c.in-Ended.is p.2) en

pub returns-in-Some-clause-search : goal.returns-in-Some-clause-search
unfolding constants_of
returns-in-Some-clause-search g c = λ k v it st en.
    let s = c.args.self.now in
    let m = c.run.new.machine in
    let t = c.tell_answer.new.self in
    let n = c.answer_of.new.machine in
    let u = record t { machine = n } in
    let p = c.in_ok-found.ensures.stands k v st in
    let old = places c.args.crowd.now.texts.items (map g.W.Watch.seen c.args.crowd.now.watchers.now.items) in
    let mid = places c.run.new.crowd.texts.items (map g.W.Watch.seen c.run.new.crowd.watchers.now.items) in
    let new = places c.tell_answer.new.crowd.texts.items (map g.W.Watch.seen c.tell_answer.new.crowd.watchers.now.items) in
    let heard = subst (λ l. HeardBy l s.machine m old mid p.0) c.as_slice.ensures.value p.1 in
    let r = subst (λ z. Rests k v p.0 (turn_told z) m) c.in-Answered.is p.2 in
    let stands = r.2 in
    let note = c.in_ok-tell_answer-in-Answered.ensures.rests in
    let made = c.in_ok-made-in-Answered.ensures in
    let more : s.given < s.answers = (let l = it.left in omega (arith, l)) in
    let x : Extends m.bank n.bank = subst (λ z. Extends z.bank n.bank) note.machine made.only.bank in
    let um : n ≡ with_bank (rested m) n.bank = made.only.same ∙ ap (λ z. with_bank z n.bank) note.machine in
    let z : Tally = record { steps = 0; notes = AnswerNote (suc s.given) ∷ [] } in
    let count : c.len-count.result ≡ stands.0.vars =
    (let a = c.len-count.ensures in let o = t.variables.ok in let v = ap (λ w. length w.items) note.variables in let q = same_count k s u m n.bank r.0
    it stands x um (note.given more it.fits) note.answers note.variables note.ended in omega (arith, a, o, v, q)) in (
      answer_told k r.0 m stands c.in-Some.answer (subst (λ o. IfSome o (IsAnswerOf stands.1)) c.in-Some.is (made.answer stands.0 stands.1 count
          (subst (λ z. IsAnswer stands.0 z stands.1) (sym note.machine) (answer_rested stands.0 m stands.1 stands.6))).1),
      answer_between k s u m n.bank r.0 it stands x um (note.given more it.fits) note.answers note.variables note.ended,
      subst (HeardBy s.constants.items s.machine n old new) (sym (r.1 ∙ ap (both p.0) (answer_noted k s m r.0 it stands)))
          (heard_more s.constants.items p.0 z s.machine m n old mid new heard (ap (λ w. w.counts.steps) um ∙ plus_none m.counts.steps, c.in_ok-tell_answer-in-Answered.ensures.heard s.constants.items more it.fits)),
    )

pub returns-in_err-found-clause-begins : goal.returns-in_err-found-clause-begins
unfolding constants_of
returns-in_err-found-clause-begins g c = λ k x it st.
    let old = places c.args.crowd.now.texts.items (map g.W.Watch.seen c.args.crowd.now.watchers.now.items) in
    let new = places c.run.new.crowd.texts.items (map g.W.Watch.seen c.run.new.crowd.watchers.now.items) in
    subst (λ l. HearsPart l x.notes old new) c.as_slice.ensures.value (c.run.ensures.begins k x st)

pub returns-in-Ended-clause-begins : goal.returns-in-Ended-clause-begins
unfolding constants_of
returns-in-Ended-clause-begins g c = λ k x it st.
    let old = places c.args.crowd.now.texts.items (map g.W.Watch.seen c.args.crowd.now.watchers.now.items) in
    let new = places c.run.new.crowd.texts.items (map g.W.Watch.seen c.run.new.crowd.watchers.now.items) in
    subst (λ l. HearsPart l x.notes old new) c.as_slice.ensures.value (c.run.ensures.begins k x st)

pub returns-in_err-tell_answer-in-Answered-clause-begins : goal.returns-in_err-tell_answer-in-Answered-clause-begins
unfolding constants_of
returns-in_err-tell_answer-in-Answered-clause-begins g c = λ k x it st.
    let s = c.args.self.now in
    let m = c.run.new.machine in
    let cs = s.constants.items in
    let old = places c.args.crowd.now.texts.items (map g.W.Watch.seen c.args.crowd.now.watchers.now.items) in
    let mid = places c.run.new.crowd.texts.items (map g.W.Watch.seen c.run.new.crowd.watchers.now.items) in
    let new = places c.tell_answer.new.crowd.texts.items (map g.W.Watch.seen c.tell_answer.new.crowd.watchers.now.items) in
    let p = c.in_ok-found.ensures.stands k x st in
    let heard = subst (λ l. HeardBy l s.machine m old mid p.0) c.as_slice.ensures.value p.1 in
    let r = subst (λ z. Rests k x p.0 (turn_told z) m) c.in-Answered.is p.2 in
    let more : s.given < s.answers = (let l = it.left in omega (arith, l)) in
    parts_behind cs x p.0 r.0 old mid new r.1 heard.1
    (subst (λ ns. HearsPart cs ns mid new) (sym (ap (λ (t : Tally). t.notes) (answer_noted k s m r.0 it r.2))) (c.tell_answer.ensures.part cs more it.fits))

pub returns-in_err-made-in-Answered-clause-begins : goal.returns-in_err-made-in-Answered-clause-begins
unfolding constants_of
returns-in_err-made-in-Answered-clause-begins g c = λ k x it st.
    let s = c.args.self.now in
    let m = c.run.new.machine in
    let cs = s.constants.items in
    let old = places c.args.crowd.now.texts.items (map g.W.Watch.seen c.args.crowd.now.watchers.now.items) in
    let mid = places c.run.new.crowd.texts.items (map g.W.Watch.seen c.run.new.crowd.watchers.now.items) in
    let new = places c.tell_answer.new.crowd.texts.items (map g.W.Watch.seen c.tell_answer.new.crowd.watchers.now.items) in
    let p = c.in_ok-found.ensures.stands k x st in
    let heard = subst (λ l. HeardBy l s.machine m old mid p.0) c.as_slice.ensures.value p.1 in
    let r = subst (λ z. Rests k x p.0 (turn_told z) m) c.in-Answered.is p.2 in
    let more : s.given < s.answers = (let l = it.left in omega (arith, l)) in
    parts_behind cs x p.0 r.0 old mid new r.1 heard.1
    (subst (λ ns. HearsPart cs ns mid new) (sym (ap (λ (t : Tally). t.notes) (answer_noted k s m r.0 it r.2))) (c.tell_answer.ensures.part cs more it.fits))

pub returns-in-Some-clause-begins : goal.returns-in-Some-clause-begins
unfolding constants_of
returns-in-Some-clause-begins g c = λ k x it st.
    let s = c.args.self.now in
    let m = c.run.new.machine in
    let cs = s.constants.items in
    let old = places c.args.crowd.now.texts.items (map g.W.Watch.seen c.args.crowd.now.watchers.now.items) in
    let mid = places c.run.new.crowd.texts.items (map g.W.Watch.seen c.run.new.crowd.watchers.now.items) in
    let new = places c.tell_answer.new.crowd.texts.items (map g.W.Watch.seen c.tell_answer.new.crowd.watchers.now.items) in
    let p = c.in_ok-found.ensures.stands k x st in
    let heard = subst (λ l. HeardBy l s.machine m old mid p.0) c.as_slice.ensures.value p.1 in
    let r = subst (λ z. Rests k x p.0 (turn_told z) m) c.in-Answered.is p.2 in
    let more : s.given < s.answers = (let l = it.left in omega (arith, l)) in
    parts_behind cs x p.0 r.0 old mid new r.1 heard.1
    (subst (λ ns. HearsPart cs ns mid new) (sym (ap (λ (t : Tally). t.notes) (answer_noted k s m r.0 it r.2))) (c.tell_answer.ensures.part cs more it.fits))

pub returns-in-Ended-clause-within : goal.returns-in-Ended-clause-within
unfolding steps_of
returns-in-Ended-clause-within g c = λ k x it st. let a = c.end.ensures.steps in let l = c.in_ok-found.ensures.within k x st in omega (arith, a, l)

pub returns-in-Some-clause-within : goal.returns-in-Some-clause-within
unfolding steps_of
returns-in-Some-clause-within g c = λ k x it st.
    let m = c.run.new.machine in
    let n = c.answer_of.new.machine in
    let made = c.in_ok-made-in-Answered.ensures in
    let um : n ≡ with_bank (rested m) n.bank = made.only.same ∙ ap (λ z. with_bank z n.bank) c.in_ok-tell_answer-in-Answered.ensures.rests.machine in
    let a = ap (λ w. w.counts.steps) um in
    let l = c.in_ok-found.ensures.within k x st in
    omega (arith, a, l)

pub returns-in_default-clause-search : goal.returns-in_default-clause-search
unfolding constants_of
returns-in_default-clause-search g c = λ k v it st en.
    let s = c.args.self.now in
    let m = c.run.new.machine in
    let t = c.tell_answer.new.self in
    let n = c.answer_of.new.machine in
    let u = record t { machine = n } in
    let p = c.in_ok-found.ensures.stands k v st in
    let old = places c.args.crowd.now.texts.items (map g.W.Watch.seen c.args.crowd.now.watchers.now.items) in
    let mid = places c.run.new.crowd.texts.items (map g.W.Watch.seen c.run.new.crowd.watchers.now.items) in
    let new = places c.tell_answer.new.crowd.texts.items (map g.W.Watch.seen c.tell_answer.new.crowd.watchers.now.items) in
    let heard = subst (λ l. HeardBy l s.machine m old mid p.0) c.as_slice.ensures.value p.1 in
    let r = subst (λ z. Rests k v p.0 (turn_told z) m) c.in-Answered.is p.2 in
    let stands = r.2 in
    let note = c.in_ok-tell_answer-in-Answered.ensures.rests in
    let made = c.in_ok-made-in-Answered.ensures in
    let more : s.given < s.answers = (let l = it.left in omega (arith, l)) in
    let x : Extends m.bank n.bank = subst (λ z. Extends z.bank n.bank) note.machine made.only.bank in
    let um : n ≡ with_bank (rested m) n.bank = made.only.same ∙ ap (λ z. with_bank z n.bank) note.machine in
    let z : Tally = record { steps = 0; notes = AnswerNote (suc s.given) ∷ [] } in
    let count : c.len-count.result ≡ stands.0.vars =
    (let a = c.len-count.ensures in let o = t.variables.ok in let v = ap (λ w. length w.items) note.variables in let q = same_count k s u m n.bank r.0
    it stands x um (note.given more it.fits) note.answers note.variables note.ended in omega (arith, a, o, v, q)) in
    let none = (made.answer stands.0 stands.1 count
    (subst (λ z. IsAnswer stands.0 z stands.1) (sym note.machine) (answer_rested stands.0 m stands.1 stands.6))).0 in
    absurd (true≢false (sym (subst IsSome c.in_default.is none)))

pub returns-in_default-clause-begins : goal.returns-in_default-clause-begins
unfolding constants_of
returns-in_default-clause-begins g c = λ k x it st.
    let s = c.args.self.now in
    let m = c.run.new.machine in
    let cs = s.constants.items in
    let old = places c.args.crowd.now.texts.items (map g.W.Watch.seen c.args.crowd.now.watchers.now.items) in
    let mid = places c.run.new.crowd.texts.items (map g.W.Watch.seen c.run.new.crowd.watchers.now.items) in
    let new = places c.tell_answer.new.crowd.texts.items (map g.W.Watch.seen c.tell_answer.new.crowd.watchers.now.items) in
    let p = c.in_ok-found.ensures.stands k x st in
    let heard = subst (λ l. HeardBy l s.machine m old mid p.0) c.as_slice.ensures.value p.1 in
    let r = subst (λ z. Rests k x p.0 (turn_told z) m) c.in-Answered.is p.2 in
    let more : s.given < s.answers = (let l = it.left in omega (arith, l)) in
    parts_behind cs x p.0 r.0 old mid new r.1 heard.1
    (subst (λ ns. HearsPart cs ns mid new) (sym (ap (λ (t : Tally). t.notes) (answer_noted k s m r.0 it r.2))) (c.tell_answer.ensures.part cs more it.fits))

pub returns-in_default-clause-within : goal.returns-in_default-clause-within
unfolding steps_of
returns-in_default-clause-within g c = λ k x it st.
    let m = c.run.new.machine in
    let n = c.answer_of.new.machine in
    let made = c.in_ok-made-in-Answered.ensures in
    let um : n ≡ with_bank (rested m) n.bank = made.only.same ∙ ap (λ z. with_bank z n.bank) c.in_ok-tell_answer-in-Answered.ensures.rests.machine in
    let a = ap (λ w. w.counts.steps) um in
    let e = c.end-in_default.ensures.steps in
    let l = c.in_ok-found.ensures.within k x st in
    omega (arith, e, a, l)
