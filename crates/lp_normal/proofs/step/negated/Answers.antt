use Rattle.lp_normal.proofs.Steps.{not_next}
use Rattle.std.proofs.Common.{arith, ◌∙◌, ap}
use Rattle.lp_normal.specs.declared.frame.Frame.{Frame}
use Rattle.lp_normal.proofs.Counts.{new_met, frames_pushed}
use Rattle.lp_term.specs.Nodes.{tree}
use Rattle.lp_standard.specs.Connectives.{connective_of}
use Rattle.lp_standard.specs.Connectives as connective
use Rattle.lp_normal.specs.inner.Work.{weight}
use Rattle.lp_normal.proofs.Works.{new_work, frames_work_pushed, lighter}
use Rattle.lp_normal.proofs.Nested.{nested_pushed}
use Rattle.lp_normal.proofs.step.negated.Goals as goal

pub returns-clause-comes : goal.returns-clause-comes
returns-clause-comes c = λ out whole h t.
    let e = c.in_ok-inner.ensures in
    not_next c.args.bank.now c.args.list c.args.next out whole c.in_ok-inner.inner c.args.frames.now.items c.push.new.self.items c.args.on e.opened e.done e.waiting e.level c.in_ok-push.ensures.items c.requires.form h t

pub returns-clause-met : goal.returns-clause-met
returns-clause-met c = λ b.
    let e = c.in_ok-inner.ensures in
    omega (arith, new_met b c.in_ok-inner.inner e.opened e.done, frames_pushed b c.push.new.self.items c.args.frames.now.items (Frame.Not c.args.list) c.in_ok-push.ensures.items)

pub returns-clause-less : goal.returns-clause-less
returns-clause-less c = λ d x.
    let e = c.in_ok-inner.ensures in
    let form = ap connective_of (x.same_terms c.args.next.formula.0 c.requires.next.formula) ∙ c.requires.form in
    omega (
      arith,
      new_work d c.in_ok-inner.inner (record { formula = c.args.on; level = c.args.next.level }) e.waiting,
      frames_work_pushed d c.push.new.self.items c.args.frames.now.items (Frame.Not c.args.list) c.in_ok-push.ensures.items,
      lighter (tree d c.args.next.formula.0) (connective.Not (tree c.args.bank.now c.args.on.0)) form,
      ap weight (x.same_terms c.args.on.0 c.requires.on),
    )

pub returns-clause-kind : goal.returns-clause-kind
returns-clause-kind c = λ k h. nested_pushed k c.args.frames.now.items c.push.new.self.items (Frame.Not c.args.list) c.in_ok-push.ensures.items h
