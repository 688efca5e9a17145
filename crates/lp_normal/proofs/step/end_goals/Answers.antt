use Rattle.std.proofs.Common.{arith, ap, true}
use Rattle.lp_term.proofs.Moves.{nothing}
use Rattle.lp_normal.specs.Within.{IsFrameIn}
use Rattle.lp_normal.proofs.Bounds.{All-last, all_popped}
use Rattle.lp_normal.proofs.Turnings.{popped_none, goals_made, frame_popped}
use Rattle.lp_normal.specs.inner.Met.{frames_met}
use Rattle.lp_normal.proofs.Counts.{frames_pushed}
use Rattle.lp_normal.specs.inner.Work.{frames_work}
use Rattle.lp_normal.proofs.Works.{frames_work_pushed}
use Rattle.lp_normal.proofs.Nested.{nested_popped, nested_last}
use Rattle.lp_normal.proofs.step.end_goals.Goals as goal

pub returns-in_default-clause-comes : goal.returns-in_default-clause-comes
returns-in_default-clause-comes c = λ whole h.
    let b = c.args.bank.now in
    let l = c.args.list in
    let p = popped_none b l l.waiting h.0 c.requires.waiting h.1 in
    goals_made b c.args.frames.now.items c.in_ok-goals.goals h.0 whole (nothing c.args.frames.now.items (omega (arith, c.in_default.ensures.cases.0, c.args.frames.now.ok)))
    (c.in_ok-goals.ensures.closes b p.0 h.0 c.requires.list p.1 p.2) h.2

pub returns-clause-frames : goal.returns-clause-frames
returns-clause-frames c =
    let b = c.args.bank.now in
    let k = All-last (IsFrameIn b) c.args.frames.now.items c.pop.new.self.items c.in-Some.frame c.in-Some.ensures.items c.requires.frames in
    c.in_ok-inner.ensures.frames b k.0 k.1 (c.in_ok-goals.ensures.within b c.requires.list)

pub returns-clause-within : goal.returns-clause-within
returns-clause-within c =
    let b = c.args.bank.now in
    let k = All-last (IsFrameIn b) c.args.frames.now.items c.pop.new.self.items c.in-Some.frame c.in-Some.ensures.items c.requires.frames in
    c.in_ok-inner.ensures.within b k.1 (c.in_ok-goals.ensures.within b c.requires.list)

pub returns-clause-comes : goal.returns-clause-comes
returns-clause-comes c = λ whole h.
    let b = c.args.bank.now in
    let l = c.args.list in
    let k = All-last (IsFrameIn b) c.args.frames.now.items c.pop.new.self.items c.in-Some.frame c.in-Some.ensures.items c.requires.frames in
    let p = popped_none b l l.waiting h.0 c.requires.waiting h.1 in
    let f = frame_popped b c.args.frames.now.items c.pop.new.self.items c.in-Some.frame h.0 whole c.in-Some.ensures.items h.2 in
    c.in_ok-inner.ensures.comes b h.0 f.0 whole k.1 (c.in_ok-goals.ensures.closes b p.0 h.0 c.requires.list p.1 p.2) f.1 f.2

pub returns-in_default-clause-met : goal.returns-in_default-clause-met
returns-in_default-clause-met c = λ b. omega (arith, c.in_ok-goals.ensures.met b, ap (frames_met b) (all_popped c.args.frames.now.items c.pop.new.self.items c.in_default.ensures.items))

pub returns-clause-met : goal.returns-clause-met
returns-clause-met c = λ b.
    omega (arith, c.in_ok-goals.ensures.met b, c.in_ok-inner.ensures.met b, frames_pushed b c.args.frames.now.items c.pop.new.self.items c.in-Some.frame c.in-Some.ensures.items)

pub returns-in_default-clause-less : goal.returns-in_default-clause-less
returns-in_default-clause-less c = λ d. omega (arith, ap (frames_work d) (all_popped c.args.frames.now.items c.pop.new.self.items c.in_default.ensures.items))

pub returns-clause-less : goal.returns-clause-less
returns-clause-less c = λ d.
    omega (arith, c.in_ok-inner.ensures.less d, frames_work_pushed d c.args.frames.now.items c.pop.new.self.items c.in-Some.frame c.in-Some.ensures.items)

pub returns-in_default-clause-kind : goal.returns-in_default-clause-kind
returns-in_default-clause-kind c = λ k h. nested_last k true c.args.frames.now.items (nothing c.args.frames.now.items (omega (arith, c.in_default.ensures.cases.0, c.args.frames.now.ok))) h

pub returns-clause-kind : goal.returns-clause-kind
returns-clause-kind c = λ k h. c.in_ok-inner.ensures.kind k (nested_popped k true c.args.frames.now.items c.pop.new.self.items c.in-Some.frame c.in-Some.ensures.items h)
