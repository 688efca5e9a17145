use Rattle.std.proofs.Common.{reverse, arith, refl, ◌∙◌, ap, sym, subst}
use Rattle.lp_model.specs.declared.clause.Goal as code
use Rattle.lp_model.specs.Flat.{Cut}
use Rattle.lp_normal.specs.Within.{IsFrameIn}
use Rattle.lp_normal.specs.Making.{these_goals}
use Rattle.lp_normal.proofs.Bounds.{All-reverse, with_goal, join_list}
use Rattle.lp_normal.proofs.Meanings.{cut_is, cut_terms, cut_types}
use Rattle.lp_normal.proofs.Steps.{truth_next, cut_next, both_next, with_comes}
use Rattle.lp_normal.proofs.Comings.{all_turn_later}
use Rattle.lp_normal.proofs.Counts.{with_met, cut_counts, same_met}
use Rattle.lp_term.specs.Nodes.{tree}
use Rattle.lp_standard.specs.Connectives.{connective_of}
use Rattle.lp_standard.specs.Connectives as connective
use Rattle.lp_normal.specs.inner.Work.{weight}
use Rattle.lp_normal.proofs.Works.{same_work, two_more_work, lighter}
use Rattle.lp_normal.specs.inner.Kinds.{IsNested}
use Rattle.lp_normal.proofs.step.next_goal.Goals as goal

pub returns-in-True-clause-comes : goal.returns-in-True-clause-comes
returns-in-True-clause-comes c = λ out whole h t. (out, truth_next c.args.bank.now c.args.list c.args.next out c.in-True.ensures.tree h, t)

pub returns-in_ok-made-in-Cut-clause-within : goal.returns-in_ok-made-in-Cut-clause-within
returns-in_ok-made-in-Cut-clause-within c =
    let e = c.in_ok-made-in-Cut.ensures in
    with_goal c.args.bank.now c.args.list c.in_ok-made-in-Cut.made code.Cut e.opened e.done e.waiting e.level c.requires.list (omega (arith, cut_terms)) (omega (arith, cut_types))

pub returns-in_ok-made-in-Cut-clause-comes : goal.returns-in_ok-made-in-Cut-clause-comes
returns-in_ok-made-in-Cut-clause-comes c = λ out whole h t.
    let e = c.in_ok-made-in-Cut.ensures in
    (out, with_comes c.args.bank.now c.args.list c.in_ok-made-in-Cut.made code.Cut Cut out e.opened e.done e.waiting e.level (λ later x. cut_is later) (cut_next c.args.bank.now c.args.list c.args.next out c.in-Cut.ensures.tree h), t)

pub returns-in_ok-made-in-And-clause-within : goal.returns-in_ok-made-in-And-clause-within
returns-in_ok-made-in-And-clause-within c =
    let e = c.in_ok-made-in-And.ensures in
    let i = c.in-And.ensures.within in
    join_list c.args.bank.now c.args.list c.in_ok-made-in-And.made c.in-And.left c.in-And.right c.args.next.level e.opened e.done e.waiting e.level c.requires.list c.requires.next.outside i.0 i.1

pub returns-in_ok-made-in-And-clause-comes : goal.returns-in_ok-made-in-And-clause-comes
returns-in_ok-made-in-And-clause-comes c = λ out whole h t.
    let e = c.in_ok-made-in-And.ensures in
    (out, both_next c.args.bank.now c.args.list c.args.next out c.in_ok-made-in-And.made c.in-And.left c.in-And.right e.opened e.done e.waiting e.level c.in-And.ensures.tree h, t)

pub returns-in_ok-made-in-Implies-clause-comes : goal.returns-in_ok-made-in-Implies-clause-comes
returns-in_ok-made-in-Implies-clause-comes c = λ out whole h t.
    let b = c.args.bank.now in
    let fs = c.args.frames.now.items in
    (these_goals out, c.in_ok-made-in-Implies.ensures.comes out h, all_turn_later b c.assume.new.bank c.in_ok-made-in-Implies.ensures.kept (reverse fs) (these_goals out) whole (All-reverse (IsFrameIn b) fs c.requires.frames) t)

pub returns-in_ok-made-in-Exists-clause-comes : goal.returns-in_ok-made-in-Exists-clause-comes
returns-in_ok-made-in-Exists-clause-comes c = λ out whole h t.
    let b = c.args.bank.now in
    let fs = c.args.frames.now.items in
    (out, c.in_ok-made-in-Exists.ensures.comes out h, all_turn_later b c.exists.new.bank c.in_ok-made-in-Exists.ensures.kept (reverse fs) (these_goals out) whole (All-reverse (IsFrameIn b) fs c.requires.frames) t)

pub returns-in_ok-made-in-Atomic-clause-comes : goal.returns-in_ok-made-in-Atomic-clause-comes
returns-in_ok-made-in-Atomic-clause-comes c = λ out whole h t.
    let b = c.args.bank.now in
    let fs = c.args.frames.now.items in
    (out, c.in_ok-made-in-Atomic.ensures.comes out h, all_turn_later b c.atom.new.bank c.in_ok-made-in-Atomic.ensures.kept (reverse fs) (these_goals out) whole (All-reverse (IsFrameIn b) fs c.requires.frames) t)

pub returns-in-True-clause-met : goal.returns-in-True-clause-met
returns-in-True-clause-met c = λ b. refl

pub returns-in_ok-made-in-Cut-clause-met : goal.returns-in_ok-made-in-Cut-clause-met
returns-in_ok-made-in-Cut-clause-met c = λ b.
    let e = c.in_ok-made-in-Cut.ensures in
    omega (arith, with_met b c.in_ok-made-in-Cut.made c.args.list code.Cut e.opened e.done, cut_counts b)

pub returns-in_ok-made-in-And-clause-met : goal.returns-in_ok-made-in-And-clause-met
returns-in_ok-made-in-And-clause-met c = λ b.
    let e = c.in_ok-made-in-And.ensures in
    omega (arith, same_met b c.in_ok-made-in-And.made c.args.list e.opened e.done)

pub returns-in_ok-made-in-Or-clause-met : goal.returns-in_ok-made-in-Or-clause-met
returns-in_ok-made-in-Or-clause-met c = λ b. c.in_ok-made-in-Or.ensures.met b

pub returns-in_ok-made-in-Implies-clause-met : goal.returns-in_ok-made-in-Implies-clause-met
returns-in_ok-made-in-Implies-clause-met c = λ b. omega (arith, c.in_ok-made-in-Implies.ensures.met b)

pub returns-in_ok-made-in-ForAll-clause-met : goal.returns-in_ok-made-in-ForAll-clause-met
returns-in_ok-made-in-ForAll-clause-met c = λ b. c.in_ok-made-in-ForAll.ensures.met b

pub returns-in_ok-made-in-Exists-clause-met : goal.returns-in_ok-made-in-Exists-clause-met
returns-in_ok-made-in-Exists-clause-met c = λ b. omega (arith, c.in_ok-made-in-Exists.ensures.met b)

pub returns-in_ok-made-in-Not-clause-met : goal.returns-in_ok-made-in-Not-clause-met
returns-in_ok-made-in-Not-clause-met c = λ b. c.in_ok-made-in-Not.ensures.met b

pub returns-in_ok-made-in-Atomic-clause-met : goal.returns-in_ok-made-in-Atomic-clause-met
returns-in_ok-made-in-Atomic-clause-met c = λ b. omega (arith, c.in_ok-made-in-Atomic.ensures.met b)

pub returns-in-True-clause-less : goal.returns-in-True-clause-less
returns-in-True-clause-less c = λ d x. omega arith

pub returns-in_ok-made-in-Cut-clause-less : goal.returns-in_ok-made-in-Cut-clause-less
returns-in_ok-made-in-Cut-clause-less c = λ d x. omega (arith, same_work d c.in_ok-made-in-Cut.made c.args.list c.in_ok-made-in-Cut.ensures.waiting)

pub returns-in_ok-made-in-And-clause-less : goal.returns-in_ok-made-in-And-clause-less
returns-in_ok-made-in-And-clause-less c = λ d x.
    let b = c.args.bank.now in
    let i = c.in-And.ensures.within in
    let form = ap connective_of (x.same_terms c.args.next.formula.0 c.requires.next.formula) ∙ c.in-And.ensures.tree in
    omega (
      arith,
      two_more_work d c.in_ok-made-in-And.made c.args.list (record { formula = c.in-And.right; level = c.args.next.level }) (record { formula = c.in-And.left; level = c.args.next.level }) c.in_ok-made-in-And.ensures.waiting,
      lighter (tree d c.args.next.formula.0) (connective.And (tree b c.in-And.left.0) (tree b c.in-And.right.0)) form,
      ap weight (x.same_terms c.in-And.left.0 i.0),
      ap weight (x.same_terms c.in-And.right.0 i.1),
    )

pub returns-in_ok-made-in-Or-clause-less : goal.returns-in_ok-made-in-Or-clause-less
returns-in_ok-made-in-Or-clause-less c = λ d x. c.in_ok-made-in-Or.ensures.less d x

pub returns-in_ok-made-in-Implies-clause-less : goal.returns-in_ok-made-in-Implies-clause-less
returns-in_ok-made-in-Implies-clause-less c = λ d x. omega (arith, c.in_ok-made-in-Implies.ensures.less d x)

pub returns-in_ok-made-in-ForAll-clause-less : goal.returns-in_ok-made-in-ForAll-clause-less
returns-in_ok-made-in-ForAll-clause-less c = λ d x. c.in_ok-made-in-ForAll.ensures.less d x

pub returns-in_ok-made-in-Exists-clause-less : goal.returns-in_ok-made-in-Exists-clause-less
returns-in_ok-made-in-Exists-clause-less c = λ d x. omega (arith, c.in_ok-made-in-Exists.ensures.less d x)

pub returns-in_ok-made-in-Not-clause-less : goal.returns-in_ok-made-in-Not-clause-less
returns-in_ok-made-in-Not-clause-less c = λ d x. c.in_ok-made-in-Not.ensures.less d x

pub returns-in_ok-made-in-Atomic-clause-less : goal.returns-in_ok-made-in-Atomic-clause-less
returns-in_ok-made-in-Atomic-clause-less c = λ d x. omega (arith, c.in_ok-made-in-Atomic.ensures.less d x)

pub returns-in_ok-made-in-Implies-clause-kind : goal.returns-in_ok-made-in-Implies-clause-kind
returns-in_ok-made-in-Implies-clause-kind c = λ k h. subst (λ z. IsNested k z (reverse c.args.frames.now.items)) (sym c.in_ok-made-in-Implies.ensures.kind) h
