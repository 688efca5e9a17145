use Rattle.lp_normal.proofs.Steps.{one_of_next}
use Rattle.std.proofs.Common.{arith, ◌∙◌, ap}
use Rattle.lp_normal.specs.declared.frame.Frame.{Frame}
use Rattle.lp_normal.proofs.Counts.{new_met, frames_pushed}
use Rattle.lp_term.specs.Nodes.{tree}
use Rattle.lp_standard.specs.Connectives.{connective_of}
use Rattle.lp_standard.specs.Connectives as connective
use Rattle.lp_normal.proofs.Works.{new_work, frames_work_pushed, lighter}
use Rattle.lp_normal.specs.inner.Work.{weight}
use Rattle.lp_normal.proofs.Nested.{nested_pushed}
use Rattle.lp_normal.proofs.step.either.Goals as goal

pub returns-clause-comes : goal.returns-clause-comes
returns-clause-comes c = λ out whole h t.
    let e = c.in_ok-inner.ensures in
    one_of_next c.args.bank.now c.args.list c.args.next out whole c.in_ok-inner.inner c.args.frames.now.items c.push.new.self.items c.args.left
    c.args.right e.opened e.done e.waiting e.level c.in_ok-push.ensures.items c.requires.form h t

pub returns-clause-met : goal.returns-clause-met
returns-clause-met c = λ b.
    let e = c.in_ok-inner.ensures in
    omega (
      arith,
      new_met b c.in_ok-inner.inner e.opened e.done,
      frames_pushed b c.push.new.self.items c.args.frames.now.items
          (Frame.Left c.args.list (record { formula = c.args.right; level = c.args.next.level })) c.in_ok-push.ensures.items,
    )

pub returns-clause-less : goal.returns-clause-less
returns-clause-less c = λ d x.
    let e = c.in_ok-inner.ensures in
    let b = c.args.bank.now in
    let l = tree b c.args.left.0 in
    let r = tree b c.args.right.0 in
    let form = ap connective_of (x.same_terms c.args.next.formula.0 c.requires.next.formula) ∙ c.requires.form in
    omega (
      arith,
      new_work d c.in_ok-inner.inner (record { formula = c.args.left; level = c.args.next.level }) e.waiting,
      frames_work_pushed d c.push.new.self.items c.args.frames.now.items (Frame.Left c.args.list (record { formula = c.args.right; level = c.args.next.level })) c.in_ok-push.ensures.items,
      lighter (tree d c.args.next.formula.0) (connective.Or l r) form,
      ap weight (x.same_terms c.args.left.0 c.requires.left),
      ap weight (x.same_terms c.args.right.0 c.requires.right),
    )

pub returns-clause-kind : goal.returns-clause-kind
returns-clause-kind c = λ k h. nested_pushed k c.args.frames.now.items c.push.new.self.items (Frame.Left c.args.list (record { formula = c.args.right; level = c.args.next.level })) c.in_ok-push.ensures.items h
