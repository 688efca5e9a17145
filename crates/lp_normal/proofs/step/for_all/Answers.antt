use Rattle.std.proofs.Common.{◌∙◌, ap, sym, reverse, arith}
use Rattle.lp_calculus.specs.Term.{shift}
use Rattle.lp_term.specs.Nodes.{tree, type_tree}
use Rattle.lp_standard.specs.Connectives.{body_of, connective_of}
use Rattle.lp_standard.specs.Connectives as connective
use Rattle.lp_normal.specs.Within.{IsFrameIn}
use Rattle.lp_normal.specs.Making.{these_goals}
use Rattle.lp_normal.proofs.Bounds.{All-reverse}
use Rattle.lp_normal.proofs.Steps.{every_next}
use Rattle.lp_normal.proofs.Comings.{next_later, all_turn_later}
use Rattle.lp_normal.specs.declared.frame.Frame.{Frame}
use Rattle.lp_normal.proofs.Counts.{new_met, frames_pushed}
use Rattle.lp_term.proofs.Trees.{extends-trans}
use Rattle.lp_normal.proofs.Works.{new_work, frames_work_pushed, body_lighter}
use Rattle.lp_normal.proofs.Nested.{nested_pushed}
use Rattle.lp_normal.proofs.step.for_all.Goals as goal

pub returns-clause-comes : goal.returns-clause-comes
returns-clause-comes c = λ out whole h t.
    let b = c.args.bank.now in
    let n = c.raised_body.new.bank in
    let x = c.in_ok-formula.ensures.kept in
    let e = c.in_ok-inner.ensures in
    let l = c.args.list in
    let w = c.args.next in
    let fs = c.args.frames.now.items in
    let u = tree b c.args.on.0 in
    every_next n l w out whole c.in_ok-inner.inner fs c.push.new.self.items c.args.bound c.in_ok-formula.formula e.opened e.done e.waiting e.level c.in_ok-push.ensures.items u
    (c.in_ok-formula.ensures.tree ∙ ap (λ k. body_of (shift 0 k u)) c.raise_from-by.ensures)
    (ap connective_of (x.same_terms w.formula.0 c.requires.next.formula) ∙ c.requires.form ∙ ap (λ T. connective.ForAll T (body_of u)) (sym (x.same_types c.args.bound.0 c.requires.bound)))
    (next_later b n x l w out c.requires.list c.requires.next h) (all_turn_later b n x (reverse fs) (these_goals out) whole (All-reverse (IsFrameIn b) fs c.requires.frames) t)

pub returns-clause-met : goal.returns-clause-met
returns-clause-met c = λ b.
    let e = c.in_ok-inner.ensures in
    omega (arith, new_met b c.in_ok-inner.inner e.opened e.done, frames_pushed b c.push.new.self.items c.args.frames.now.items (Frame.All c.args.list c.args.bound) c.in_ok-push.ensures.items)

pub returns-clause-less : goal.returns-clause-less
returns-clause-less c = λ d x.
    let e = c.in_ok-inner.ensures in
    let i = c.in_ok-formula.ensures in
    let y = extends-trans c.args.bank.now c.raised_body.new.bank d i.kept x in
    let u = tree c.args.bank.now c.args.on.0 in
    let form = ap connective_of (y.same_terms c.args.next.formula.0 c.requires.next.formula) ∙ c.requires.form in
    let body = x.same_terms c.in_ok-formula.formula.0 i.within ∙ i.tree in
    omega (
      arith,
      new_work d c.in_ok-inner.inner (record { formula = c.in_ok-formula.formula; level = 0 }) e.waiting,
      frames_work_pushed d c.push.new.self.items c.args.frames.now.items (Frame.All c.args.list c.args.bound) c.in_ok-push.ensures.items,
      body_lighter (tree d c.in_ok-formula.formula.0) (tree d c.args.next.formula.0) u c.raise_from-by.result (connective.ForAll (type_tree c.args.bank.now c.args.bound.0) (body_of u)) form body (λ n l. l),
    )

pub returns-clause-kind : goal.returns-clause-kind
returns-clause-kind c = λ k h. nested_pushed k c.args.frames.now.items c.push.new.self.items (Frame.All c.args.list c.args.bound) c.in_ok-push.ensures.items h
