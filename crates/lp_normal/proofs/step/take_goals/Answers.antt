use Rattle.std.proofs.Common.{length, arith, refl, ap, sym, subst, reverse}
use Rattle.lp_model.specs.declared.clause.Goal as code
use Rattle.lp_model.specs.declared.clause.Clause.{Clause}
use Rattle.lp_normal.specs.Within.{IsFrameIn}
use Rattle.lp_normal.specs.declared.frame.Frame.{Frame}
use Rattle.lp_normal.proofs.Bounds.{All-pushed, new_list, with_goal, with_clause, types_high}
use Rattle.lp_normal.proofs.Meanings.{either_terms, either_types, all_terms, all_types, assume_terms, assume_types, not_terms, not_types, clause_terms, clause_types}
use Rattle.lp_normal.proofs.Turnings.{left_turns, right_turns, all_turns, assume_turns, not_turns, body_turns}
use Rattle.lp_normal.specs.inner.Met.{frame_met}
use Rattle.lp_normal.proofs.Counts.{new_met, frames_pushed, with_met, with_clause_met, either_counts, all_counts, assume_counts, not_counts}
use Rattle.lp_normal.specs.inner.Work.{frame_work}
use Rattle.lp_normal.proofs.Works.{new_work, frames_work_pushed, same_work, same_clauses_work}
use Rattle.lp_normal.specs.inner.Kinds.{is_assumed, waits_in_goals, IsNested}
use Rattle.lp_normal.proofs.Nested.{nested_pushed}
use Rattle.lp_normal.proofs.step.take_goals.Goals as goal

pub returns-in_ok-push-in-Left-clause-frames : goal.returns-in_ok-push-in-Left-clause-frames
returns-in_ok-push-in-Left-clause-frames c = λ b a i g.
    let j = rw c.in-Left.is at i in
    All-pushed (IsFrameIn b) c.push.new.self.items c.args.frames.now.items (Frame.Right c.in-Left.outer c.args.goals) c.in_ok-push-in-Left.ensures.items a (j.0, g)

pub returns-in_ok-push-in-Left-clause-within : goal.returns-in_ok-push-in-Left-clause-within
returns-in_ok-push-in-Left-clause-within c = λ b i g.
    let j = rw c.in-Left.is at i in
    let e = c.in_ok-inner-in-Left.ensures in
    new_list b c.in_ok-inner-in-Left.inner c.in-Left.right c.in-Left.outer.level e.opened e.done e.waiting e.level j.1

pub returns-in_ok-push-in-Left-clause-comes : goal.returns-in_ok-push-in-Left-clause-comes
returns-in_ok-push-in-Left-clause-comes c = λ b gs next whole i r u t.
    let v = rw c.in-Left.is at u in
    let e = c.in_ok-inner-in-Left.ensures in
    left_turns b c.args.frames.now.items c.push.new.self.items c.args.goals.items gs next whole r t c.in-Left.outer c.in_ok-inner-in-Left.inner
    c.in-Left.right c.args.goals refl c.in_ok-push-in-Left.ensures.items e.opened e.done e.waiting e.level v

pub returns-in_ok-made-in-Right-clause-within : goal.returns-in_ok-made-in-Right-clause-within
returns-in_ok-made-in-Right-clause-within c = λ b i g.
    let j = rw c.in-Right.is at i in
    let e = c.in_ok-made-in-Right.ensures in
    with_goal b c.in-Right.outer c.in_ok-made-in-Right.made (code.Either c.in-Right.left c.args.goals) e.opened e.done e.waiting e.level j.0
    (omega (arith, either_terms c.in-Right.left c.args.goals, j.1.terms, g.terms)) (omega (arith, either_types c.in-Right.left c.args.goals, j.1.types, g.types))

pub returns-in_ok-made-in-Right-clause-comes : goal.returns-in_ok-made-in-Right-clause-comes
returns-in_ok-made-in-Right-clause-comes c = λ b gs next whole i r u t.
    let v = rw c.in-Right.is at u in
    let e = c.in_ok-made-in-Right.ensures in
    let fs = c.args.frames.now.items in
    right_turns b fs fs c.args.goals.items gs next whole r t c.in-Right.outer c.in_ok-made-in-Right.made c.in-Right.left c.args.goals refl refl e.opened e.done e.waiting e.level v

pub returns-in_ok-made-in-All-clause-within : goal.returns-in_ok-made-in-All-clause-within
returns-in_ok-made-in-All-clause-within c = λ b i g.
    let j = rw c.in-All.is at i in
    let e = c.in_ok-made-in-All.ensures in
    with_goal b c.in-All.outer c.in_ok-made-in-All.made (code.All c.in-All.bound c.args.goals) e.opened e.done e.waiting e.level j.0
    (omega (arith, all_terms c.in-All.bound c.args.goals, g.terms)) (omega (arith, all_types c.in-All.bound c.args.goals, j.1, g.types))

pub returns-in_ok-made-in-All-clause-comes : goal.returns-in_ok-made-in-All-clause-comes
returns-in_ok-made-in-All-clause-comes c = λ b gs next whole i r u t.
    let j = rw c.in-All.is at i in
    let v = rw c.in-All.is at u in
    let e = c.in_ok-made-in-All.ensures in
    let fs = c.args.frames.now.items in
    all_turns b fs fs c.args.goals.items gs next whole r t c.in-All.outer c.in_ok-made-in-All.made c.in-All.bound c.args.goals refl refl j.1 e.opened e.done e.waiting e.level v

pub returns-in_ok-made-in-Assume-clause-within : goal.returns-in_ok-made-in-Assume-clause-within
returns-in_ok-made-in-Assume-clause-within c = λ b i g.
    let j = rw c.in-Assume.is at i in
    let e = c.in_ok-made-in-Assume.ensures in
    with_goal b c.in-Assume.outer c.in_ok-made-in-Assume.made (code.Assume c.in-Assume.clauses c.args.goals) e.opened e.done e.waiting e.level j.0
    (omega (arith, assume_terms c.in-Assume.clauses c.args.goals, j.1.terms, g.terms)) (omega (arith, assume_types c.in-Assume.clauses c.args.goals, j.1.types, g.types))

pub returns-in_ok-made-in-Assume-clause-comes : goal.returns-in_ok-made-in-Assume-clause-comes
returns-in_ok-made-in-Assume-clause-comes c = λ b gs next whole i r u t.
    let v = rw c.in-Assume.is at u in
    let e = c.in_ok-made-in-Assume.ensures in
    let fs = c.args.frames.now.items in
    assume_turns b fs fs c.args.goals.items gs next whole r t c.in-Assume.outer c.in_ok-made-in-Assume.made c.in-Assume.clauses c.args.goals refl refl e.opened e.done e.waiting e.level v

pub returns-in_ok-made-in-Not-clause-within : goal.returns-in_ok-made-in-Not-clause-within
returns-in_ok-made-in-Not-clause-within c = λ b i g.
    let j = rw c.in-Not.is at i in
    let e = c.in_ok-made-in-Not.ensures in
    with_goal b c.in-Not.outer c.in_ok-made-in-Not.made (code.Not c.args.goals) e.opened e.done e.waiting e.level j
    (omega (arith, not_terms c.args.goals, g.terms)) (omega (arith, not_types c.args.goals, g.types))

pub returns-in_ok-made-in-Not-clause-comes : goal.returns-in_ok-made-in-Not-clause-comes
returns-in_ok-made-in-Not-clause-comes c = λ b gs next whole i r u t.
    let v = rw c.in-Not.is at u in
    let e = c.in_ok-made-in-Not.ensures in
    let fs = c.args.frames.now.items in
    not_turns b fs fs c.args.goals.items gs next whole r t c.in-Not.outer c.in_ok-made-in-Not.made c.args.goals refl refl e.opened e.done e.waiting e.level v

pub returns-in_ok-made-in-Body-clause-within : goal.returns-in_ok-made-in-Body-clause-within
returns-in_ok-made-in-Body-clause-within c = λ b i g.
    let j = rw c.in-Body.is at i in
    let e = c.in_ok-made-in-Body.ensures in
    let x : Clause = record { type_vars = c.in-Body.outer.type_vars; vars = c.in-Body.vars; head = c.in-Body.head; body = c.args.goals } in
    with_clause b c.in-Body.outer c.in_ok-made-in-Body.made x e.assumed e.done e.waiting e.around j.0
    (omega (arith, clause_terms x, j.2, g.terms)) (omega (arith, clause_types x, types_high (length b.types) c.in-Body.vars.items j.1, g.types))

pub returns-in_ok-made-in-Body-clause-comes : goal.returns-in_ok-made-in-Body-clause-comes
returns-in_ok-made-in-Body-clause-comes c = λ b gs next whole i r u t.
    let j = rw c.in-Body.is at i in
    let v = rw c.in-Body.is at u in
    let e = c.in_ok-made-in-Body.ensures in
    let fs = c.args.frames.now.items in
    let x : Clause = record { type_vars = c.in-Body.outer.type_vars; vars = c.in-Body.vars; head = c.in-Body.head; body = c.args.goals } in
    body_turns b fs fs c.args.goals.items gs next whole r t c.in-Body.outer c.in_ok-made-in-Body.made c.in-Body.vars c.in-Body.head c.args.goals x
    refl refl refl j.1 j.2 e.type_vars e.assumed e.done e.waiting e.around v

pub returns-in_ok-push-in-Left-clause-met : goal.returns-in_ok-push-in-Left-clause-met
returns-in_ok-push-in-Left-clause-met c = λ b.
    let e = c.in_ok-inner-in-Left.ensures in
    omega (
      arith,
      ap (frame_met b) c.in-Left.is,
      new_met b c.in_ok-inner-in-Left.inner e.opened e.done,
      frames_pushed b c.push.new.self.items c.args.frames.now.items (Frame.Right c.in-Left.outer c.args.goals) c.in_ok-push-in-Left.ensures.items,
    )

pub returns-in_ok-made-in-Right-clause-met : goal.returns-in_ok-made-in-Right-clause-met
returns-in_ok-made-in-Right-clause-met c = λ b.
    let e = c.in_ok-made-in-Right.ensures in
    omega (
      arith,
      ap (frame_met b) c.in-Right.is,
      with_met b c.in_ok-made-in-Right.made c.in-Right.outer (code.Either c.in-Right.left c.args.goals)
          e.opened e.done,
      either_counts b c.in-Right.left c.args.goals,
    )

pub returns-in_ok-made-in-All-clause-met : goal.returns-in_ok-made-in-All-clause-met
returns-in_ok-made-in-All-clause-met c = λ b.
    let e = c.in_ok-made-in-All.ensures in
    omega (arith, ap (frame_met b) c.in-All.is, with_met b c.in_ok-made-in-All.made c.in-All.outer (code.All c.in-All.bound c.args.goals) e.opened e.done, all_counts b c.in-All.bound c.args.goals)

pub returns-in_ok-made-in-Assume-clause-met : goal.returns-in_ok-made-in-Assume-clause-met
returns-in_ok-made-in-Assume-clause-met c = λ b.
    let e = c.in_ok-made-in-Assume.ensures in
    omega (
      arith,
      ap (frame_met b) c.in-Assume.is,
      with_met b c.in_ok-made-in-Assume.made c.in-Assume.outer
          (code.Assume c.in-Assume.clauses c.args.goals) e.opened e.done,
      assume_counts b c.in-Assume.clauses c.args.goals,
    )

pub returns-in_ok-made-in-Not-clause-met : goal.returns-in_ok-made-in-Not-clause-met
returns-in_ok-made-in-Not-clause-met c = λ b.
    let e = c.in_ok-made-in-Not.ensures in
    omega (arith, ap (frame_met b) c.in-Not.is, with_met b c.in_ok-made-in-Not.made c.in-Not.outer (code.Not c.args.goals) e.opened e.done, not_counts b c.args.goals)

pub returns-in_ok-made-in-Body-clause-met : goal.returns-in_ok-made-in-Body-clause-met
returns-in_ok-made-in-Body-clause-met c = λ b.
    let e = c.in_ok-made-in-Body.ensures in
    let x : Clause = record { type_vars = c.in-Body.outer.type_vars; vars = c.in-Body.vars; head = c.in-Body.head; body = c.args.goals } in
    omega (arith, ap (frame_met b) c.in-Body.is, with_clause_met b c.in_ok-made-in-Body.made c.in-Body.outer x e.assumed e.done)

pub returns-in_ok-push-in-Left-clause-less : goal.returns-in_ok-push-in-Left-clause-less
returns-in_ok-push-in-Left-clause-less c = λ d.
    let e = c.in_ok-inner-in-Left.ensures in
    omega (
      arith,
      ap (frame_work d) c.in-Left.is,
      new_work d c.in_ok-inner-in-Left.inner c.in-Left.right e.waiting,
      frames_work_pushed d c.push.new.self.items c.args.frames.now.items (Frame.Right c.in-Left.outer c.args.goals) c.in_ok-push-in-Left.ensures.items,
    )

pub returns-in_ok-made-in-Right-clause-less : goal.returns-in_ok-made-in-Right-clause-less
returns-in_ok-made-in-Right-clause-less c = λ d. omega (arith, ap (frame_work d) c.in-Right.is, same_work d c.in_ok-made-in-Right.made c.in-Right.outer c.in_ok-made-in-Right.ensures.waiting)

pub returns-in_ok-made-in-All-clause-less : goal.returns-in_ok-made-in-All-clause-less
returns-in_ok-made-in-All-clause-less c = λ d. omega (arith, ap (frame_work d) c.in-All.is, same_work d c.in_ok-made-in-All.made c.in-All.outer c.in_ok-made-in-All.ensures.waiting)

pub returns-in_ok-made-in-Assume-clause-less : goal.returns-in_ok-made-in-Assume-clause-less
returns-in_ok-made-in-Assume-clause-less c = λ d. omega (arith, ap (frame_work d) c.in-Assume.is, same_work d c.in_ok-made-in-Assume.made c.in-Assume.outer c.in_ok-made-in-Assume.ensures.waiting)

pub returns-in_ok-made-in-Not-clause-less : goal.returns-in_ok-made-in-Not-clause-less
returns-in_ok-made-in-Not-clause-less c = λ d. omega (arith, ap (frame_work d) c.in-Not.is, same_work d c.in_ok-made-in-Not.made c.in-Not.outer c.in_ok-made-in-Not.ensures.waiting)

pub returns-in_ok-made-in-Body-clause-less : goal.returns-in_ok-made-in-Body-clause-less
returns-in_ok-made-in-Body-clause-less c = λ d.
    let e = c.in_ok-made-in-Body.ensures in
    omega (arith, ap (frame_work d) c.in-Body.is, same_clauses_work d c.in_ok-made-in-Body.made c.in-Body.outer e.assumed e.waiting)

pub returns-in_ok-push-in-Left-clause-kind : goal.returns-in_ok-push-in-Left-clause-kind
returns-in_ok-push-in-Left-clause-kind c = λ k h.
    nested_pushed k c.args.frames.now.items c.push.new.self.items (Frame.Right c.in-Left.outer c.args.goals) c.in_ok-push-in-Left.ensures.items
    (subst (λ f. IsNested k (waits_in_goals f) (reverse c.args.frames.now.items)) c.in-Left.is h)

pub returns-in_ok-made-in-Right-clause-kind : goal.returns-in_ok-made-in-Right-clause-kind
returns-in_ok-made-in-Right-clause-kind c = λ k h. subst (λ f. IsNested k (waits_in_goals f) (reverse c.args.frames.now.items)) c.in-Right.is h

pub returns-in_ok-made-in-All-clause-kind : goal.returns-in_ok-made-in-All-clause-kind
returns-in_ok-made-in-All-clause-kind c = λ k h. subst (λ f. IsNested k (waits_in_goals f) (reverse c.args.frames.now.items)) c.in-All.is h

pub returns-in_ok-made-in-Assume-clause-kind : goal.returns-in_ok-made-in-Assume-clause-kind
returns-in_ok-made-in-Assume-clause-kind c = λ k h. subst (λ f. IsNested k (waits_in_goals f) (reverse c.args.frames.now.items)) c.in-Assume.is h

pub returns-in_ok-made-in-Not-clause-kind : goal.returns-in_ok-made-in-Not-clause-kind
returns-in_ok-made-in-Not-clause-kind c = λ k h. subst (λ f. IsNested k (waits_in_goals f) (reverse c.args.frames.now.items)) c.in-Not.is h

pub returns-in_ok-made-in-Body-clause-kind : goal.returns-in_ok-made-in-Body-clause-kind
returns-in_ok-made-in-Body-clause-kind c = λ k h.
    subst (λ o. IsNested k (is_assumed o) (reverse c.args.frames.now.items)) (sym c.in_ok-made-in-Body.ensures.assumed)
    (subst (λ f. IsNested k (waits_in_goals f) (reverse c.args.frames.now.items)) c.in-Body.is h)
