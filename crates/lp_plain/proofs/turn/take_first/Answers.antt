use Rattle.std.proofs.Common.{◌+◌}
use Rattle.lp_plain.proofs.AtGoals.{at_last, at_more, framed_work, goals_there, running_framed}
use Rattle.std.proofs.Common.{◌≡◌, ◌∙◌, [], ◌∷◌, ◌++◌, add-one, ap, arith, refl, subst, sym}
use Rattle.lp_plain.specs.Apart.{IsApart}
use Rattle.lp_plain.proofs.Counted.{counted_first}
use Rattle.lp_plain.proofs.FirstGoals.{last_taken, more_taken}
use Rattle.lp_plain.specs.Taking.{IsApartFlat}
use Rattle.lp_plain.proofs.OwnValues.{one_read}
use Rattle.lp_plain.proofs.WrittenFirst.{last_writes, more_writes}
use Rattle.lp_plain.proofs.AtomAtHand.{first_written, flat_framed}
use Rattle.lp_plain.specs.declared.frame.Frame.{Frame}
use Rattle.lp_plain.specs.declared.frame.Todo.{Todo}
use Rattle.lp_plain.specs.declared.table.Span.{Span}
use Rattle.lp_plain.proofs.CallTerms.{framed_program, rest_written}
use Rattle.lp_plain.proofs.ProgramKept.{goals_keep, program_same, program_then}
use Rattle.lp_plain.specs.declared.outcome.Turn.{Turn}
use Rattle.lp_plain.proofs.WrittenSearches.{search_frame}
use Rattle.lp_model.specs.Branch.{Branch}
use Rattle.lp_plain.specs.Denials.{TakesDenied}
use Rattle.std.proofs.Common.{inl}
use Rattle.lp_plain.proofs.Beginning.{counts_from}
use Rattle.lp_plain.proofs.Remains.{back_same, from_same, uses_less}
use Rattle.lp_plain.proofs.turn.take_first.Goals as goal

pub returns-then-count-le1-clause-taken : goal.returns-then-count-le1-clause-taken
returns-then-count-le1-clause-taken g c = λ e.
    last_taken c.args.machine.now c.take_flat.new.machine c.args.place c.args.goals c.args.behind c.in-Some.goal (sym c.goal-found.ensures ∙ c.in-Some.is)
    (omega (arith, c.if-count-le1.true, c.saturating_sub-count.ensures)) (c.in_ok-turn.ensures.taken e)

pub returns-then-count-le1-clause-counted : goal.returns-then-count-le1-clause-counted
returns-then-count-le1-clause-counted g c = λ hs l h f ar w. c.in_ok-turn.ensures.counted (counted_first c.args.machine.now c.args.goals c.in-Some.goal (sym c.goal-found.ensures ∙ c.in-Some.is) hs l h f) ar
    (first_written c.args.machine.now ar c.args.place c.args.goals c.in-Some.goal (sym c.goal-found.ensures ∙ c.in-Some.is) l w)

pub returns-clause-taken : goal.returns-clause-taken
returns-clause-taken g c = λ e.
    let f = c.in_ok-rest.ensures in
    more_taken c.args.machine.now c.put_frame.new.self c.take_flat-2.new.machine c.args.place c.args.goals
    (record { from = c.args.goals.from + 1; to = c.args.goals.to }) c.args.behind c.in_ok-rest.rest c.in-Some.goal (sym c.goal-found.ensures ∙ c.in-Some.is)
    (add-one c.args.goals.from) refl (omega (arith, c.if-count-le1.false, c.saturating_sub-count.ensures)) f.goals f.course f.assumed f.frame f.stands f.reads (c.in_ok-turn-2.ensures.taken e)

pub returns-clause-counted : goal.returns-clause-counted
returns-clause-counted g c = λ hs l h f ar w.
    let m = c.args.machine.now in
    subst (λ z. IsApart c.in_ok-turn-2.turn z c.take_flat-2.new.machine.counts) c.in_ok-rest.ensures.course.counts
    (c.in_ok-turn-2.ensures.counted (counted_first c.args.machine.now c.args.goals c.in-Some.goal (sym c.goal-found.ensures ∙ c.in-Some.is) hs l h f) ar
    (flat_framed m c.put_frame.new.self c.in_ok-rest.ensures.goals ar c.args.place c.in-Some.goal (first_written m ar c.args.place c.args.goals c.in-Some.goal (sym c.goal-found.ensures ∙ c.in-Some.is) l w)))

pub returns-then-count-le1-clause-marks : goal.returns-then-count-le1-clause-marks
returns-then-count-le1-clause-marks g c = λ e hs l h f. c.in_ok-turn.ensures.marks e (counted_first c.args.machine.now c.args.goals c.in-Some.goal (sym c.goal-found.ensures ∙ c.in-Some.is) hs l h f)

pub returns-clause-marks : goal.returns-clause-marks
returns-clause-marks g c = λ e hs l h f least most k i j.
    c.in_ok-turn-2.ensures.marks e (counted_first c.args.machine.now c.args.goals c.in-Some.goal (sym c.goal-found.ensures ∙ c.in-Some.is) hs l h f) least most
    (c.in_ok-rest.ensures.marks least most k i j) i j

pub returns-then-count-le1-clause-aside : goal.returns-then-count-le1-clause-aside
returns-then-count-le1-clause-aside g c = λ e hs l h f.
    c.in_ok-turn.ensures.aside e (counted_first c.args.machine.now c.args.goals c.in-Some.goal (sym c.goal-found.ensures ∙ c.in-Some.is) hs l h f)

pub returns-clause-aside : goal.returns-clause-aside
returns-clause-aside g c = λ e hs l h f d q from r least most k i j.
    c.in_ok-turn-2.ensures.aside e (counted_first c.args.machine.now c.args.goals c.in-Some.goal (sym c.goal-found.ensures ∙ c.in-Some.is) hs l h f) d
    (q ∙ ap (λ z. z ++ d ∷ []) (sym c.in_ok-rest.ensures.course.choices)) from r least most (c.in_ok-rest.ensures.marks least most k i j) i j

pub returns-then-count-le1-clause-moved : goal.returns-then-count-le1-clause-moved
returns-then-count-le1-clause-moved g c = λ qv a raw s h at pf w.
    c.in_ok-turn.ensures.moved qv a raw s h (at_last c.args.machine.now a c.args.place c.args.goals c.args.behind raw c.in-Some.goal
    (sym c.goal-found.ensures ∙ c.in-Some.is) (omega (arith, c.if-count-le1.true, c.saturating_sub-count.ensures)) at) pf
    (first_written c.args.machine.now qv.arity c.args.place c.args.goals c.in-Some.goal (sym c.goal-found.ensures ∙ c.in-Some.is) at.some w)

pub returns-clause-moved : goal.returns-clause-moved
returns-clause-moved g c = λ qv a raw s h at pf w.
    let m = c.args.machine.now in
    let q = c.put_frame.new.self in
    let p = c.args.place in
    let f = c.in_ok-rest.ensures in
    let r = c.in_ok-turn-2.ensures.moved qv a raw s (running_framed qv m q a p raw s f.goals f.course f.assumed f.frame (f.stands (omega (arith, c.if-count-le1.false, c.saturating_sub-count.ensures)) h.above.done.stands) at.place h)
    (at_more m q a p c.args.goals (record { from = c.args.goals.from + 1; to = c.args.goals.to }) c.args.behind c.in_ok-rest.rest raw c.in-Some.goal
    (sym c.goal-found.ensures ∙ c.in-Some.is) (add-one c.args.goals.from) refl
    f.goals f.assumed f.reads at) pf
    (flat_framed m q f.goals qv.arity p c.in-Some.goal (first_written m qv.arity p c.args.goals c.in-Some.goal (sym c.goal-found.ensures ∙ c.in-Some.is) at.some w)) in
    (r.0, (r.1.0 ∙ ap (λ z. z.steps + r.0.steps) f.course.counts, r.1.1), r.2)

pub returns-then-count-le1-clause-written : goal.returns-then-count-le1-clause-written
returns-then-count-le1-clause-written g c = λ e f got h l.
    let m = c.args.machine.now in
    let same : f ≡ c.in-Some.goal = one_read m.table.goals.items c.args.goals.from f c.in-Some.goal got (sym c.goal-found.ensures ∙ c.in-Some.is) in
    last_writes m c.take_flat.new.machine c.args.place c.args.goals c.in-Some.goal (sym c.goal-found.ensures ∙ c.in-Some.is) l (c.in_ok-turn.ensures.written e (subst IsApartFlat same h))

pub returns-clause-written : goal.returns-clause-written
returns-clause-written g c = λ e f got h l.
    let m = c.args.machine.now in
    let r = c.in_ok-rest.ensures in
    let same : f ≡ c.in-Some.goal = one_read m.table.goals.items c.args.goals.from f c.in-Some.goal got (sym c.goal-found.ensures ∙ c.in-Some.is) in
    more_writes m c.put_frame.new.self c.take_flat-2.new.machine c.args.place c.args.goals (record { from = c.args.goals.from + 1; to = c.args.goals.to })
    c.in-Some.goal c.args.behind r.goals r.assumed r.course.choices r.pushed
    (λ i. r.stands (omega (arith, c.if-count-le1.false, c.saturating_sub-count.ensures)) i) (sym c.goal-found.ensures ∙ c.in-Some.is) (add-one c.args.goals.from) refl
    (omega (arith, c.if-count-le1.false, c.saturating_sub-count.ensures))
    (c.in_ok-turn-2.ensures.written e (subst IsApartFlat same h))

pub returns-then-count-le1-clause-leads : goal.returns-then-count-le1-clause-leads
returns-then-count-le1-clause-leads g c = λ qv a raw s h at af w.
    let m = c.args.machine.now in
    c.in_ok-turn.ensures.leads qv a raw s h (at_last m a c.args.place c.args.goals c.args.behind raw c.in-Some.goal (sym c.goal-found.ensures ∙ c.in-Some.is)
    (omega (arith, c.if-count-le1.true, c.saturating_sub-count.ensures)) at) af
    (first_written m qv.arity c.args.place c.args.goals c.in-Some.goal (sym c.goal-found.ensures ∙ c.in-Some.is) at.some w)

pub returns-clause-leads : goal.returns-clause-leads
returns-clause-leads g c = λ qv a raw s h at af w.
    let m = c.args.machine.now in
    let q = c.put_frame.new.self in
    let p = c.args.place in
    let f = c.in_ok-rest.ensures in
    let i = h.above.done.stands in
    let st = f.stands (omega (arith, c.if-count-le1.false, c.saturating_sub-count.ensures)) i in
    let others : Span = record { from = c.args.goals.from + 1; to = c.args.goals.to } in
    let frame : Frame = record { todo = Todo.Goals others; place = p; behind = c.args.behind } in
    let later = add-one c.args.goals.from in
    let next : c.args.goals.from + 1 ≡ c.args.goals.from + 1 = refl in
    let w' = rest_written m qv.arity p c.args.goals (c.args.goals.from + 1) next at.some w in
    let r = c.in_ok-turn-2.ensures.leads qv a raw s (running_framed qv m q a p raw s f.goals f.course f.assumed f.frame st at.place h)
    (at_more m q a p c.args.goals others c.args.behind c.in_ok-rest.rest raw c.in-Some.goal (sym c.goal-found.ensures ∙ c.in-Some.is) later refl f.goals f.assumed f.reads at) af
    (flat_framed m q f.goals qv.arity p c.in-Some.goal (first_written m qv.arity p c.args.goals c.in-Some.goal (sym c.goal-found.ensures ∙ c.in-Some.is) at.some w)) in (
      r.0,
      (r.1.0 ∙ ap (λ z. z.steps + r.0.steps) f.course.counts, r.1.1),
      λ css pr sw. r.2 css (framed_program m q f.goals qv.arity css pr)
          (search_frame m q frame i f.goals f.assumed f.course.choices f.pushed (omega (arith, c.if-count-le1.false, c.saturating_sub-count.ensures)) qv.arity w' sw),
    )

pub returns-then-count-le1-clause-stays : goal.returns-then-count-le1-clause-stays
returns-then-count-le1-clause-stays g c = λ a raw at pf ar st w sw.
    let m = c.args.machine.now in
    c.in_ok-turn.ensures.stays a raw (at_last m a c.args.place c.args.goals c.args.behind raw c.in-Some.goal (sym c.goal-found.ensures ∙ c.in-Some.is)
    (omega (arith, c.if-count-le1.true, c.saturating_sub-count.ensures)) at) pf ar st
    (first_written m ar c.args.place c.args.goals c.in-Some.goal (sym c.goal-found.ensures ∙ c.in-Some.is) at.some w) sw

pub returns-clause-stays : goal.returns-clause-stays
returns-clause-stays g c = λ a raw at pf ar i w sw.
    let m = c.args.machine.now in
    let q = c.put_frame.new.self in
    let p = c.args.place in
    let f = c.in_ok-rest.ensures in
    let others : Span = record { from = c.args.goals.from + 1; to = c.args.goals.to } in
    let frame : Frame = record { todo = Todo.Goals others; place = p; behind = c.args.behind } in
    let later = add-one c.args.goals.from in
    let next : c.args.goals.from + 1 ≡ c.args.goals.from + 1 = refl in
    let w' = rest_written m ar p c.args.goals (c.args.goals.from + 1) next at.some w in
    c.in_ok-turn-2.ensures.stays a raw (at_more m q a p c.args.goals others c.args.behind c.in_ok-rest.rest raw c.in-Some.goal (sym c.goal-found.ensures ∙ c.in-Some.is)
    later refl f.goals f.assumed f.reads at) pf ar (f.stands (omega (arith, c.if-count-le1.false, c.saturating_sub-count.ensures)) i)
    (flat_framed m q f.goals ar p c.in-Some.goal (first_written m ar p c.args.goals c.in-Some.goal (sym c.goal-found.ensures ∙ c.in-Some.is) at.some w))
    (search_frame m q frame i f.goals f.assumed f.course.choices f.pushed (omega (arith, c.if-count-le1.false, c.saturating_sub-count.ensures)) ar w' sw)

pub returns-then-count-le1-clause-program : goal.returns-then-count-le1-clause-program
returns-then-count-le1-clause-program g c = c.in_ok-turn.ensures.program

pub returns-clause-program : goal.returns-clause-program
returns-clause-program g c =
    let m = c.args.machine.now in
    let q = c.put_frame.new.self in
    program_then m q c.take_flat-2.new.machine (goals_keep m q c.in_ok-rest.ensures.goals) c.in_ok-turn-2.ensures.program

pub returns-then-count-le1-clause-ends : goal.returns-then-count-le1-clause-ends
returns-then-count-le1-clause-ends g c = c.in_ok-turn.ensures.ends

pub returns-clause-ends : goal.returns-clause-ends
returns-clause-ends g c = c.in_ok-turn-2.ensures.ends

pub returns-then-count-le1-clause-denies : goal.returns-then-count-le1-clause-denies
returns-then-count-le1-clause-denies g c = λ qv a raw s h at df.
    let m = c.args.machine.now in
    c.in_ok-turn.ensures.denies qv a raw s h (at_last m a c.args.place c.args.goals c.args.behind raw c.in-Some.goal (sym c.goal-found.ensures ∙ c.in-Some.is)
    (omega (arith, c.if-count-le1.true, c.saturating_sub-count.ensures)) at) df

pub returns-clause-denies : goal.returns-clause-denies
returns-clause-denies g c = λ qv a raw s h at df.
    let m = c.args.machine.now in
    let q = c.put_frame.new.self in
    let p = c.args.place in
    let f = c.in_ok-rest.ensures in
    let st = f.stands (omega (arith, c.if-count-le1.false, c.saturating_sub-count.ensures)) h.above.done.stands in
    let r = c.in_ok-turn-2.ensures.denies qv a raw s (running_framed qv m q a p raw s f.goals f.course f.assumed f.frame st at.place h)
    (at_more m q a p c.args.goals (record { from = c.args.goals.from + 1; to = c.args.goals.to }) c.args.behind c.in_ok-rest.rest raw c.in-Some.goal
    (sym c.goal-found.ensures ∙ c.in-Some.is) (add-one c.args.goals.from) refl
    f.goals f.assumed f.reads at) df in (
      r.0,
      (r.1.0 ∙ ap (λ z. z.steps + r.0.steps) f.course.counts, r.1.1),
      subst (λ (z : Branch). TakesDenied r.0 c.in_ok-turn-2.turn qv c.take_flat-2.new.machine s z.goals)
          (framed_work qv m q a p raw s f.goals f.course f.assumed f.frame st at.place h) r.2,
    )

pub returns-then-count-le1-clause-denied_stays : goal.returns-then-count-le1-clause-denied_stays
returns-then-count-le1-clause-denied_stays g c = λ a raw at df ar st w sw.
    let m = c.args.machine.now in
    c.in_ok-turn.ensures.denied_stays a raw (at_last m a c.args.place c.args.goals c.args.behind raw c.in-Some.goal (sym c.goal-found.ensures ∙ c.in-Some.is)
    (omega (arith, c.if-count-le1.true, c.saturating_sub-count.ensures)) at) df ar st
    (first_written m ar c.args.place c.args.goals c.in-Some.goal (sym c.goal-found.ensures ∙ c.in-Some.is) at.some w) sw

pub returns-clause-denied_stays : goal.returns-clause-denied_stays
returns-clause-denied_stays g c = λ a raw at df ar i w sw.
    let m = c.args.machine.now in
    let q = c.put_frame.new.self in
    let p = c.args.place in
    let f = c.in_ok-rest.ensures in
    let others : Span = record { from = c.args.goals.from + 1; to = c.args.goals.to } in
    let frame : Frame = record { todo = Todo.Goals others; place = p; behind = c.args.behind } in
    let later = add-one c.args.goals.from in
    let next : c.args.goals.from + 1 ≡ c.args.goals.from + 1 = refl in
    let w' = rest_written m ar p c.args.goals (c.args.goals.from + 1) next at.some w in
    c.in_ok-turn-2.ensures.denied_stays a raw (at_more m q a p c.args.goals others c.args.behind c.in_ok-rest.rest raw c.in-Some.goal
    (sym c.goal-found.ensures ∙ c.in-Some.is) later refl f.goals f.assumed f.reads at) df ar (f.stands (omega (arith, c.if-count-le1.false, c.saturating_sub-count.ensures)) i)
    (flat_framed m q f.goals ar p c.in-Some.goal (first_written m ar p c.args.goals c.in-Some.goal (sym c.goal-found.ensures ∙ c.in-Some.is) at.some w))
    (search_frame m q frame i f.goals f.assumed f.course.choices f.pushed (omega (arith, c.if-count-le1.false, c.saturating_sub-count.ensures)) ar w' sw)

pub returns-in_err-rest-clause-begins : goal.returns-in_err-rest-clause-begins
returns-in_err-rest-clause-begins g c = λ qv a raw s h at w. inl refl

pub returns-in_err-turn-clause-begins : goal.returns-in_err-turn-clause-begins
returns-in_err-turn-clause-begins g c = λ qv a raw s h at w.
    let m = c.args.machine.now in
    c.take_flat.ensures.begins qv a raw s h (at_last m a c.args.place c.args.goals c.args.behind raw c.in-Some.goal (sym c.goal-found.ensures ∙ c.in-Some.is)
    (omega (arith, c.if-count-le1.true, c.saturating_sub-count.ensures)) at)
    (first_written m qv.arity c.args.place c.args.goals c.in-Some.goal (sym c.goal-found.ensures ∙ c.in-Some.is) at.some w)

pub returns-then-count-le1-clause-begins : goal.returns-then-count-le1-clause-begins
returns-then-count-le1-clause-begins g c = λ qv a raw s h at w.
    let m = c.args.machine.now in
    c.take_flat.ensures.begins qv a raw s h (at_last m a c.args.place c.args.goals c.args.behind raw c.in-Some.goal (sym c.goal-found.ensures ∙ c.in-Some.is)
    (omega (arith, c.if-count-le1.true, c.saturating_sub-count.ensures)) at)
    (first_written m qv.arity c.args.place c.args.goals c.in-Some.goal (sym c.goal-found.ensures ∙ c.in-Some.is) at.some w)

pub returns-in_err-turn-2-clause-begins : goal.returns-in_err-turn-2-clause-begins
returns-in_err-turn-2-clause-begins g c = λ qv a raw s h at w.
    let m = c.args.machine.now in
    let q = c.put_frame.new.self in
    let p = c.args.place in
    let f = c.in_ok-rest.ensures in
    let st = f.stands (omega (arith, c.if-count-le1.false, c.saturating_sub-count.ensures)) h.above.done.stands in
    let others : Span = record { from = c.args.goals.from + 1; to = c.args.goals.to } in
    c.take_flat-2.ensures.begins qv a raw s (running_framed qv m q a p raw s f.goals f.course f.assumed f.frame st at.place h)
    (at_more m q a p c.args.goals others c.args.behind c.in_ok-rest.rest raw c.in-Some.goal (sym c.goal-found.ensures ∙ c.in-Some.is) (add-one c.args.goals.from) refl f.goals f.assumed f.reads at)
    (flat_framed m q f.goals qv.arity p c.in-Some.goal (first_written m qv.arity p c.args.goals c.in-Some.goal (sym c.goal-found.ensures ∙ c.in-Some.is) at.some w))

pub returns-clause-begins : goal.returns-clause-begins
returns-clause-begins g c = λ qv a raw s h at w.
    let m = c.args.machine.now in
    let q = c.put_frame.new.self in
    let p = c.args.place in
    let f = c.in_ok-rest.ensures in
    let st = f.stands (omega (arith, c.if-count-le1.false, c.saturating_sub-count.ensures)) h.above.done.stands in
    let others : Span = record { from = c.args.goals.from + 1; to = c.args.goals.to } in
    c.take_flat-2.ensures.begins qv a raw s (running_framed qv m q a p raw s f.goals f.course f.assumed f.frame st at.place h)
    (at_more m q a p c.args.goals others c.args.behind c.in_ok-rest.rest raw c.in-Some.goal (sym c.goal-found.ensures ∙ c.in-Some.is) (add-one c.args.goals.from) refl f.goals f.assumed f.reads at)
    (flat_framed m q f.goals qv.arity p c.in-Some.goal (first_written m qv.arity p c.args.goals c.in-Some.goal (sym c.goal-found.ensures ∙ c.in-Some.is) at.some w))

pub returns-then-count-le1-clause-within : goal.returns-then-count-le1-clause-within
returns-then-count-le1-clause-within g c = λ qv a raw s h at w.
    let m = c.args.machine.now in
    c.in_ok-turn.ensures.within qv a raw s h (at_last m a c.args.place c.args.goals c.args.behind raw c.in-Some.goal (sym c.goal-found.ensures ∙ c.in-Some.is)
    (omega (arith, c.if-count-le1.true, c.saturating_sub-count.ensures)) at)
    (first_written m qv.arity c.args.place c.args.goals c.in-Some.goal (sym c.goal-found.ensures ∙ c.in-Some.is) at.some w)

pub returns-clause-within : goal.returns-clause-within
returns-clause-within g c = λ qv a raw s h at w.
    let m = c.args.machine.now in
    let q = c.put_frame.new.self in
    let p = c.args.place in
    let f = c.in_ok-rest.ensures in
    let st = f.stands (omega (arith, c.if-count-le1.false, c.saturating_sub-count.ensures)) h.above.done.stands in
    let others : Span = record { from = c.args.goals.from + 1; to = c.args.goals.to } in
    counts_from m q c.take_flat-2.new.machine s (ap (λ z. z.steps) f.course.counts) (c.in_ok-turn-2.ensures.within qv a raw s (running_framed qv m q a p raw s f.goals f.course f.assumed f.frame st at.place h)
    (at_more m q a p c.args.goals others c.args.behind c.in_ok-rest.rest raw c.in-Some.goal (sym c.goal-found.ensures ∙ c.in-Some.is) (add-one c.args.goals.from) refl f.goals f.assumed f.reads at)
    (flat_framed m q f.goals qv.arity p c.in-Some.goal (first_written m qv.arity p c.args.goals c.in-Some.goal (sym c.goal-found.ensures ∙ c.in-Some.is) at.some w)))

pub returns-in_default-clause-taken : goal.returns-in_default-clause-taken
returns-in_default-clause-taken g c = λ e. absurd (let q : Turn.Back ≡ Turn.On = e in cc)

pub returns-in_default-clause-written : goal.returns-in_default-clause-written
returns-in_default-clause-written g c = λ e f got h l. absurd (let q : Turn.Back ≡ Turn.On = e in cc)

pub returns-in_default-clause-marks : goal.returns-in_default-clause-marks
returns-in_default-clause-marks g c = λ e hs l h f least most k i j. absurd (let q : Turn.Back ≡ Turn.On = e in cc)

pub returns-in_default-clause-aside : goal.returns-in_default-clause-aside
returns-in_default-clause-aside g c = λ e hs l h f. absurd (let q : Turn.Back ≡ Turn.On = e in cc)

pub returns-in_default-clause-counted : goal.returns-in_default-clause-counted
returns-in_default-clause-counted g c = λ hs l h f ar w. absurd (goals_there c.args.machine.now c.args.goals hs l h (sym c.goal-found.ensures ∙ c.in_default.is))

pub returns-in_default-clause-moved : goal.returns-in_default-clause-moved
returns-in_default-clause-moved g c = λ qv a raw s h at pf w. absurd (goals_there c.args.machine.now c.args.goals at.goals_of at.some at.are (sym c.goal-found.ensures ∙ c.in_default.is))

pub returns-in_default-clause-leads : goal.returns-in_default-clause-leads
returns-in_default-clause-leads g c = λ qv a raw s h at af w. absurd (goals_there c.args.machine.now c.args.goals at.goals_of at.some at.are (sym c.goal-found.ensures ∙ c.in_default.is))

pub returns-in_default-clause-stays : goal.returns-in_default-clause-stays
returns-in_default-clause-stays g c = λ a raw at pf ar st w sw. absurd (goals_there c.args.machine.now c.args.goals at.goals_of at.some at.are (sym c.goal-found.ensures ∙ c.in_default.is))

pub returns-in_default-clause-denied_stays : goal.returns-in_default-clause-denied_stays
returns-in_default-clause-denied_stays g c = λ a raw at df ar st w sw. absurd (goals_there c.args.machine.now c.args.goals at.goals_of at.some at.are (sym c.goal-found.ensures ∙ c.in_default.is))

pub returns-in_default-clause-denies : goal.returns-in_default-clause-denies
returns-in_default-clause-denies g c = λ qv a raw s h at df. absurd (goals_there c.args.machine.now c.args.goals at.goals_of at.some at.are (sym c.goal-found.ensures ∙ c.in_default.is))

pub returns-in_default-clause-program : goal.returns-in_default-clause-program
returns-in_default-clause-program g c = program_same c.args.machine.now c.args.machine.now refl

pub returns-in_default-clause-ends : goal.returns-in_default-clause-ends
returns-in_default-clause-ends g c = tt

pub returns-in_default-clause-begins : goal.returns-in_default-clause-begins
returns-in_default-clause-begins g c = λ qv a raw s h at w. inl refl

pub returns-in_default-clause-within : goal.returns-in_default-clause-within
returns-in_default-clause-within g c = λ qv a raw s h at w. inl refl

pub returns-in_default-clause-less : goal.returns-in_default-clause-less
returns-in_default-clause-less g c = back_same c.args.machine.now c.args.machine.now refl (omega arith)

pub returns-then-count-le1-clause-less : goal.returns-then-count-le1-clause-less
returns-then-count-le1-clause-less g c = uses_less c.in_ok-turn.turn c.args.machine.now c.take_flat.new.machine c.in_ok-turn.ensures.uses

pub returns-clause-less : goal.returns-clause-less
returns-clause-less g c =
    let k = c.in_ok-rest.ensures.course in
    from_same c.in_ok-turn-2.turn c.args.machine.now c.put_frame.new.self c.take_flat-2.new.machine k.counts k.choices
    (uses_less c.in_ok-turn-2.turn c.put_frame.new.self c.take_flat-2.new.machine c.in_ok-turn-2.ensures.uses)
