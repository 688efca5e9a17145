use Rattle.std.proofs.Common.{sym, subst, reverse, arith, ap}
use Rattle.lp_normal.specs.Making.{AssumedComesTo, AllTurn}
use Rattle.lp_normal.proofs.Turnings.{ends_made, clauses_made, assumed_made}
use Rattle.lp_normal.specs.inner.Met.{assumed_met}
use Rattle.lp_normal.specs.declared.frame.Frame.{Frame}
use Rattle.lp_normal.proofs.Counts.{new_met, frames_pushed}
use Rattle.lp_normal.specs.inner.Work.{assumed_work}
use Rattle.lp_normal.proofs.Works.{new_work, frames_work_pushed}
use Rattle.lp_normal.proofs.Nested.{nested_pushed, nested_outermost, nested_assumed}
use Rattle.lp_normal.proofs.step.end_clauses.Goals as goal

pub returns-in-None-clause-comes : goal.returns-in-None-clause-comes
returns-in-None-clause-comes c = λ whole h.
    let b = c.args.bank.now in
    let l = c.args.list in
    let p = ends_made b l h.0 c.requires.waiting h.1 in
    let q = subst (λ z. AssumedComesTo b z p.0 h.0) c.in-None.is p.2 in
    clauses_made b c.args.frames.now.items l.done p.0 whole p.1 (subst (λ z. AllTurn b (reverse c.args.frames.now.items) z whole) (sym q) h.2)

pub returns-clause-comes : goal.returns-clause-comes
returns-clause-comes c = λ whole h.
    let b = c.args.bank.now in
    let l = c.args.list in
    let p = ends_made b l h.0 c.requires.waiting h.1 in
    let q = subst (λ z. AssumedComesTo b z p.0 h.0) c.in-Some.is p.2 in
    let e = c.in_ok-inner-in-Some.ensures in
    assumed_made b c.in-Some.assumed p.0 l.done c.in_ok-inner-in-Some.inner c.args.frames.now.items c.push.new.self.items h.0 whole p.1 q e.opened e.done e.waiting e.level c.in_ok-push-in-Some.ensures.items h.2

pub returns-in-None-clause-met : goal.returns-in-None-clause-met
returns-in-None-clause-met c = λ b. omega (arith, ap (assumed_met b) c.in-None.is)

pub returns-clause-met : goal.returns-clause-met
returns-clause-met c = λ b.
    let e = c.in_ok-inner-in-Some.ensures in
    omega (
      arith,
      ap (assumed_met b) c.in-Some.is,
      new_met b c.in_ok-inner-in-Some.inner e.opened e.done,
      frames_pushed b c.push.new.self.items c.args.frames.now.items (Frame.Assume c.in-Some.assumed.outer c.args.list.done) c.in_ok-push-in-Some.ensures.items,
    )

pub returns-in-None-clause-less : goal.returns-in-None-clause-less
returns-in-None-clause-less c = λ d. omega arith

pub returns-clause-less : goal.returns-clause-less
returns-clause-less c = λ d.
    let e = c.in_ok-inner-in-Some.ensures in
    omega (
      arith,
      ap (assumed_work d) c.in-Some.is,
      new_work d c.in_ok-inner-in-Some.inner c.in-Some.assumed.goal e.waiting,
      frames_work_pushed d c.push.new.self.items c.args.frames.now.items (Frame.Assume c.in-Some.assumed.outer c.args.list.done) c.in_ok-push-in-Some.ensures.items,
    )

pub returns-in-None-clause-kind : goal.returns-in-None-clause-kind
returns-in-None-clause-kind c = λ k h. nested_outermost k c.args.list.assumed (reverse c.args.frames.now.items) c.in-None.is h

pub returns-clause-kind : goal.returns-clause-kind
returns-clause-kind c = λ k h.
    nested_pushed k c.args.frames.now.items c.push.new.self.items (Frame.Assume c.in-Some.assumed.outer c.args.list.done) c.in_ok-push-in-Some.ensures.items
    (nested_assumed k c.args.list.assumed c.in-Some.assumed (reverse c.args.frames.now.items) c.in-Some.is h)
