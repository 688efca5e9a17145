use Rattle.std.proofs.Common.{◌+◌, subst, arith}
use Rattle.lp_gen.specs.inner.Capturing.{IsDepth}
use Rattle.lp_gen.proofs.CapturedBy.{clause_holds}
use Rattle.lp_gen.proofs.CapturedFrom.{clause_has}
use Rattle.lp_gen.proofs.captured.visit_clause.Goals as goal

pub returns-clause-marks : goal.returns-clause-marks
returns-clause-marks c = λ n ks h.
    clause_holds c.args.bank.now n ks c.args.depth c.deeper-under.result c.args.clause.now c.as_slice.result c.args.work.now.items c.push.new.self.items c.push-2.new.self.items c.as_slice.ensures.value
    (λ d w. subst (λ k. IsDepth (d + k) c.deeper-under.result) (omega (arith, c.len.ensures, c.args.clause.now.vars.ok)) (c.deeper-under.ensures d w)) c.in_ok-push.ensures.items c.in_ok-push-2.ensures.items h

pub returns-clause-finds : goal.returns-clause-finds
returns-clause-finds c = λ p h d w x.
    clause_has c.args.bank.now p c.args.depth c.deeper-under.result c.args.clause.now c.as_slice.result c.args.work.now.items c.push.new.self.items c.push-2.new.self.items c.as_slice.ensures.value
    (λ d w. subst (λ k. IsDepth (d + k) c.deeper-under.result) (omega (arith, c.len.ensures, c.args.clause.now.vars.ok)) (c.deeper-under.ensures d w)) c.in_ok-push.ensures.items c.in_ok-push-2.ensures.items h d w x
