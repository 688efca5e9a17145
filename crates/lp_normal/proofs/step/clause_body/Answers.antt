use Rattle.std.proofs.Common.{arith, refl}
use Rattle.lp_normal.specs.Within.{IsFrameIn}
use Rattle.lp_normal.specs.declared.frame.Frame.{Frame}
use Rattle.lp_normal.proofs.Bounds.{All-pushed}
use Rattle.lp_normal.proofs.ClauseSteps.{scope_list, head_comes}
use Rattle.lp_normal.proofs.Counts.{new_met, frames_pushed}
use Rattle.lp_normal.proofs.Nested.{nested_pushed}
use Rattle.lp_normal.proofs.step.clause_body.Goals as goal

pub returns-clause-frames : goal.returns-clause-frames
returns-clause-frames c =
    let b = c.args.bank.now in
    All-pushed (IsFrameIn b) c.push.new.self.items c.args.frames.now.items (Frame.Body c.args.list c.in_ok-scope.scope.vars c.args.head) c.in_ok-push.ensures.items c.requires.frames
    (c.requires.list, (c.in_ok-scope.ensures.within b c.requires.list).vars, c.requires.head)

pub returns-clause-within : goal.returns-clause-within
returns-clause-within c =
    let b = c.args.bank.now in
    let s = c.in_ok-scope.scope in
    let e = c.of_all-inner.ensures in
    scope_list b c.of_all-inner.result s c.len-level.result e.opened e.done e.waiting e.level (omega (arith, c.len-level.ensures, s.vars.ok)) (c.in_ok-scope.ensures.within b c.requires.list)

pub returns-clause-comes : goal.returns-clause-comes
returns-clause-comes c = λ out whole h u.
    let b = c.args.bank.now in
    let s = c.in_ok-scope.scope in
    let e = c.of_all-inner.ensures in
    head_comes b c.args.list c.args.head.0 out whole c.of_all-inner.result s c.args.head c.len-level.result c.args.frames.now.items
    c.push.new.self.items refl (omega (arith, c.len-level.ensures, s.vars.ok)) e.opened e.done e.waiting e.level
    (c.in_ok-scope.ensures.vars b) (c.in_ok-scope.ensures.body b) c.in_ok-push.ensures.items c.requires.form h u

pub returns-clause-met : goal.returns-clause-met
returns-clause-met c = λ b.
    let e = c.of_all-inner.ensures in
    omega (
      arith,
      new_met b c.of_all-inner.result e.opened e.done,
      frames_pushed b c.push.new.self.items c.args.frames.now.items
          (Frame.Body c.args.list c.in_ok-scope.scope.vars c.args.head) c.in_ok-push.ensures.items,
    )

pub returns-clause-kind : goal.returns-clause-kind
returns-clause-kind c = λ k h. nested_pushed k c.args.frames.now.items c.push.new.self.items (Frame.Body c.args.list c.in_ok-scope.scope.vars c.args.head) c.in_ok-push.ensures.items h
