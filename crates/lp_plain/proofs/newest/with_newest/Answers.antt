use Rattle.std.proofs.Common.{◌≡◌, ap, ◌∙◌, arith, [], ◌∷◌, ◌++◌}
use Rattle.lp_plain.proofs.ListReads.{none_left}
use Rattle.lp_plain.proofs.NewestTrees.{built_begins, built_further, built}
use Rattle.lp_plain.proofs.newest.with_newest.Goals as goal

pub steps-init : goal.steps-init
steps-init c =
    let p = c.in_ok-below.ensures.put in
    built_begins c.args.nodes.now.items c.put.new.nodes.items c.args.head c.args.tree c.args.number c.in_ok-below.below c.in_ok-steps.field-0.steps.items c.in_ok-steps.field-0.end c.in_ok-steps.ensures (p.1 ∙ ap (λ z. c.args.nodes.now.items ++ z ∷ []) c.node_for.ensures) p.0

pub steps-preserved : goal.steps-preserved
steps-preserved c =
    let p = c.in_ok-below-2.ensures.put in
    built_further c.args.nodes.now.items c.steps.nodes.items c.put-in-Some.new.nodes.items c.args.head c.args.tree c.args.number c.steps.below c.in_ok-below-2.below c.steps.steps.items c.pop.new.self.items c.in-Some.step c.steps.invariant c.in-Some.ensures.items
    (p.1 ∙ ap (λ z. c.steps.nodes.items ++ z ∷ []) c.with_child.ensures) p.0

pub returns-clause-newest : goal.returns-clause-newest
returns-clause-newest c =
    let e : c.steps.steps.items ≡ [] = none_left c.steps.steps.items (omega (arith, c.in_default.ensures.cases.0, c.steps.steps.ok)) in
    built c.args.nodes.now.items c.steps.nodes.items c.args.head c.args.tree c.args.number c.steps.below c.steps.steps.items c.steps.invariant e

pub returns-clause-kept : goal.returns-clause-kept
returns-clause-kept c = c.steps.invariant.grown

pub returns-clause-fresh : goal.returns-clause-fresh
returns-clause-fresh c = c.steps.invariant.fresh

pub returns-clause-within : goal.returns-clause-within
returns-clause-within c = c.steps.invariant.within
