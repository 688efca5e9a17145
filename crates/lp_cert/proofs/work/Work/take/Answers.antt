use Rattle.lp_term.specs.Nodes.{tree}
use Rattle.lp_cert.proofs.Verdicts.{if_ok_always}
use Rattle.lp_cert.proofs.Stepping.{goes_on}
use Rattle.lp_cert.proofs.Going.{take_goes, side_known}
use Rattle.std.proofs.Common.{◌∙◌, [], refl, sym, inl, inr}
use Rattle.lp_cert.proofs.Turning.{as_it_is, goes_to, pushed_turned}
use Rattle.lp_cert.proofs.Nodewise.{side_ready, side_steps, side_none}
use Rattle.lp_cert.specs.Run.{focusing}
use Rattle.lp_term.proofs.Trees.{extends_same}
use Rattle.lp_cert.specs.Written.{side}
use Rattle.lp_cert.specs.declared.work.Task.TheVariants as task
use Rattle.lp_cert.proofs.work.Work.take.Goals as goal

pub returns-clause-side : goal.returns-clause-side
returns-clause-side c = if_ok_always c.focus_on.result _ (λ turn e. side_known c.args.which c.in-Some.left c.in-Some.right c.in-Some-side_of.part c.in-Some-side_of.ensures.some)

pub returns-clause-goes : goal.returns-clause-goes
returns-clause-goes c =
    goes_on c.focus_on.result _ _ c.focus_on.ensures.left (λ p b g ns h.
    take_goes b c.args.self.now ns (tree b c.args.clause.0) (tree b c.args.atom.0) c.args.which c.in-Some.left c.in-Some.right c.in-Some-side_of.part (c.in-Some.ensures.later b g) c.in-Some-side_of.ensures.some (p b ns h))

pub returns-in_default-clause-turned : goal.returns-in_default-clause-turned
returns-in_default-clause-turned c = λ w g d b h k. c.in_default.ensures.none refl k.0 k.1 (sym (h.same_terms c.args.clause.0 g.0) ∙ k.2)

pub returns-in_default-side_of-clause-turned : goal.returns-in_default-side_of-clause-turned
returns-in_default-side_of-clause-turned c = λ w g d b h k. c.in_default-side_of.ensures.none refl (side_none c.args.which _ _ k.3)

pub returns-clause-turned : goal.returns-clause-turned
returns-clause-turned c = pushed_turned c.focus_on.result _ _ c.focus_on.ensures.pushes (λ p w g d.
    let s = extends_same c.args.bank.now in
    goes_to c.args.bank.now c.args.bank.now c.args.self.now c.args.self.now c.focus_on.new.self (λ b. focusing (tree b c.args.clause.0) (tree b c.args.atom.0)) (λ b. side c.args.which) s (as_it_is c.args.self.now) (task.Focus c.in-Some-side_of.part c.args.atom) p w
    (side_ready c.args.bank.now c.args.clause c.in-Some.left c.in-Some.right c.in-Some-side_of.part c.args.which (c.in-Some.ensures.later c.args.bank.now s) c.in-Some-side_of.ensures.some g c.in-Some.ensures.inside.0 c.in-Some.ensures.inside.1, d)
    (λ b h at. (tree b c.in-Some.left.0, tree b c.in-Some.right.0, c.in-Some.ensures.later b h, side_steps b c.focus_on.new.self _ _ _ (tree b c.args.atom.0) c.in-Some.left c.in-Some.right c.in-Some-side_of.part c.args.which c.in-Some-side_of.ensures.some at)))
