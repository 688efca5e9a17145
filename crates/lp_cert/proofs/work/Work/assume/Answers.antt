use Rattle.lp_term.specs.Nodes.{tree}
use Rattle.lp_cert.proofs.Stepping.{goes_on}
use Rattle.lp_cert.proofs.Going.{assume_goes}
use Rattle.std.proofs.Common.{refl, subst, sym}
use Rattle.lp_cert.proofs.Turning.{goes_under_assumed, pushed_turned}
use Rattle.lp_cert.proofs.Nodewise.{implied_ready}
use Rattle.lp_cert.specs.Run.{proving}
use Rattle.lp_cert.specs.declared.work.Task.TheVariants as task
use Rattle.lp_term.proofs.Trees.{extends_same}
use Rattle.lp_model.specs.Proofs.{IsImplication}
use Rattle.lp_cert.specs.Written.{assuming}
use Rattle.lp_cert.proofs.work.Work.assume.Goals as goal

pub returns-clause-goes : goal.returns-clause-goes
returns-clause-goes c =
    goes_on c.go_on.result _ _ c.go_on.ensures.left (λ p b g ns h.
    assume_goes b c.args.self.now ns c.push.new.self.items c.push-2.new.self.items (tree b c.args.goal.0) (tree b c.in-Some.rest.0) c.in-Some.clause c.in_ok-push.ensures.items c.in_ok-push-2.ensures.items (c.in-Some.ensures.later b g) (p b ns h))

pub returns-in_default-clause-turned : goal.returns-in_default-clause-turned
returns-in_default-clause-turned c = λ w g b h k. c.in_default.ensures.none refl k.0 k.1 (subst (λ t. IsImplication t k.0 k.1) (h.same_terms c.args.goal.0 g.0) k.2)

pub returns-clause-turned : goal.returns-clause-turned
returns-clause-turned c = pushed_turned c.go_on.result _ _ c.go_on.ensures.pushes (λ p w g.
    let s = extends_same c.args.bank.now in
    let r = implied_ready c.args.bank.now c.args.goal c.in-Some.clause c.in-Some.rest (c.in-Some.ensures.later c.args.bank.now s) g c.in-Some.ensures.inside.0 c.in-Some.ensures.inside.1 in
    goes_under_assumed c.args.bank.now c.args.bank.now c.args.self.now _ c.go_on.new.self (λ b. proving (tree b c.args.goal.0)) (λ b. assuming) c.in-Some.clause (task.Prove c.in-Some.rest) s
    (record { theory = refl; eigens = refl; assumed = c.in_ok-push.ensures.items; tasks = c.in_ok-push-2.ensures.items }) p w r.0 r.1 (λ b h at. (tree b c.in-Some.clause.0, tree b c.in-Some.rest.0, c.in-Some.ensures.later b h, at)))
