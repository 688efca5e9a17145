use Rattle.lp_term.specs.Nodes.{tree}
use Rattle.lp_cert.proofs.Stepping.{goes_on}
use Rattle.lp_cert.proofs.Going.{both_goes}
use Rattle.std.proofs.Common.{◌∙◌, [], refl, sym}
use Rattle.lp_cert.proofs.Turning.{goes_to_both, pushed_turned}
use Rattle.lp_cert.proofs.Ready.{on_two}
use Rattle.lp_cert.specs.Run.{proving}
use Rattle.lp_term.proofs.Trees.{extends_same}
use Rattle.lp_cert.specs.Written.{pair}
use Rattle.lp_cert.specs.declared.work.Task.TheVariants as task
use Rattle.lp_cert.proofs.work.Work.both.Goals as goal

pub returns-clause-goes : goal.returns-clause-goes
returns-clause-goes c =
    goes_on c.go_on.result _ _ c.go_on.ensures.left (λ p b g ns h.
    both_goes b c.args.self.now ns c.push.new.self.items (tree b c.args.goal.0) (tree b c.in-Some.left.0) c.in-Some.right c.in_ok-push.ensures.items (c.in-Some.ensures.later b g) (p b ns h))

pub returns-in_default-clause-turned : goal.returns-in_default-clause-turned
returns-in_default-clause-turned c = λ w g b h k. c.in_default.ensures.none refl k.0 k.1 (sym (h.same_terms c.args.goal.0 g.0) ∙ k.2)

pub returns-clause-turned : goal.returns-clause-turned
returns-clause-turned c = pushed_turned c.go_on.result _ _ c.go_on.ensures.pushes (λ p w g.
    let s = extends_same c.args.bank.now in
    let r = on_two c.args.bank.now c.args.goal c.in-Some.left c.in-Some.right _ [] (c.in-Some.ensures.later c.args.bank.now s) g c.in-Some.ensures.inside.0 c.in-Some.ensures.inside.1 in
    goes_to_both c.args.bank.now c.args.bank.now c.args.self.now _ c.go_on.new.self (λ b. proving (tree b c.args.goal.0)) (λ b. pair) (task.Prove c.in-Some.right) (task.Prove c.in-Some.left) s
    (record { theory = refl; eigens = refl; assumed = refl; tasks = c.in_ok-push.ensures.items }) p w r.1 r.0 (λ b h at. (tree b c.in-Some.left.0, tree b c.in-Some.right.0, c.in-Some.ensures.later b h, at)))
