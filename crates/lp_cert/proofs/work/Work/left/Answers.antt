use Rattle.lp_term.specs.Nodes.{tree}
use Rattle.lp_cert.proofs.Stepping.{goes_on}
use Rattle.lp_cert.proofs.Going.{left_goes}
use Rattle.std.proofs.Common.{◌∙◌, [], refl, sym}
use Rattle.lp_cert.proofs.Turning.{as_it_is, goes_to, pushed_turned}
use Rattle.lp_cert.proofs.Ready.{on_two}
use Rattle.lp_cert.specs.Run.{proving}
use Rattle.lp_term.proofs.Trees.{extends_same}
use Rattle.lp_cert.specs.Written.{left_side}
use Rattle.lp_cert.specs.declared.work.Task.TheVariants as task
use Rattle.lp_cert.proofs.work.Work.left.Goals as goal

pub returns-in-Some-clause-goes : goal.returns-in-Some-clause-goes
returns-in-Some-clause-goes c =
    goes_on c.go_on.result _ _ c.go_on.ensures.left (λ p b g ns h.
    left_goes b c.args.self.now ns (tree b c.args.goal.0) _ _ (c.in-Some.ensures.later b g) (p b ns h))

pub returns-in-None-clause-turned : goal.returns-in-None-clause-turned
returns-in-None-clause-turned c = λ w g b h k. c.in-None.ensures.none refl k.0 k.1 (sym (h.same_terms c.args.goal.0 g.0) ∙ k.2)

pub returns-in-Some-clause-turned : goal.returns-in-Some-clause-turned
returns-in-Some-clause-turned c = pushed_turned c.go_on.result _ _ c.go_on.ensures.pushes (λ p w g.
    let s = extends_same c.args.bank.now in
    let e = c.in-Some.ensures.later c.args.bank.now s in
    let r = on_two c.args.bank.now c.args.goal _ _ _ [] e g c.in-Some.ensures.inside.0 c.in-Some.ensures.inside.1 in
    goes_to c.args.bank.now c.args.bank.now c.args.self.now c.args.self.now c.go_on.new.self (λ b. proving (tree b c.args.goal.0)) (λ b. left_side) s (as_it_is c.args.self.now) (task.Prove c.in-Some.left) p w r.0 (λ b h at. (_, _, c.in-Some.ensures.later b h, at)))
