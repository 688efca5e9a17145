use Rattle.lp_pattern.proofs.SettleMoves.{body_moves}
use Rattle.std.proofs.Common.{length}
use Rattle.lp_pattern.proofs.Enough.{body_enough}
use Rattle.std.proofs.Common.{arith}
use Rattle.lp_pattern.proofs.TasksFall.{body_left}
use Rattle.lp_pattern.proofs.settle.visit_body.Goals as goal

pub returns-clause-moves : goal.returns-clause-moves
returns-clause-moves c =
    body_moves c.args.bank.now c.args.bindings.now c.args.side.now.eigens.items c.args.opened c.in_ok-inner.inner c.args.looked.now c.args.body c.args.work.now.tasks.items c.push.new.self.items c.push-2.new.self.items
    c.args.work.now.made.items c.requires.looked c.requires.head c.in_ok-inner.ensures.0 c.in_ok-inner.ensures.1 c.in_ok-push.ensures.items c.in_ok-push-2.ensures.items

pub returns-clause-enough : goal.returns-clause-enough
returns-clause-enough c = λ h.
    body_enough c.args.work.now.tasks.items c.push.new.self.items c.push-2.new.self.items c.args.looked.now.whole c.args.body c.args.body c.in_ok-inner.inner (length c.args.work.now.made.items) c.in_ok-push.ensures.items c.in_ok-push-2.ensures.items h

pub returns-clause-falls : goal.returns-clause-falls
returns-clause-falls c =
    body_left c.args.work.now.tasks.items c.push.new.self.items c.push-2.new.self.items c.args.looked.now.whole c.args.body c.args.body c.args.opened c.in_ok-inner.inner c.args.looked.now.whole
    (omega (arith, c.args.work.now.tasks.ok, c.args.work.now.tasks.small)) c.in_ok-push.ensures.items c.in_ok-push-2.ensures.items
