use Rattle.std.proofs.Common.{◌∙◌, sym, ap, arith}
use Rattle.std.proofs.lemmas.Bool.{eqb-true}
use Rattle.std.proofs.lemmas.Result.{IfOk-weaker}
use Rattle.lp_term.specs.Nodes.{type_tree}
use Rattle.lp_term.proofs.Rebuilding.{same_types}
use Rattle.lp_pattern.specs.Filling.{part_numbers}
use Rattle.lp_pattern.proofs.FilledTypes.{constructor_filled, constructor_stays, two_filled, two_made, two_stay}
use Rattle.lp_pattern.proofs.fill_types.rebuilt.Goals as goal

pub returns-then-eq-clause-filled : goal.returns-then-eq-clause-filled
returns-then-eq-clause-filled c = λ θ l p h.
    constructor_stays c.args.bank.now θ c.in-Con.number _ c.args.parts.now c.args.made.now (type_tree c.args.bank.now c.args.id.0) c.in-Con.ensures.tree (p ∙ ap part_numbers (sym c.in-Con.ensures.node)) h
    (same_types _ (λ x y e. eqb-true x.0 y.0 e) c.args.parts.now c.args.made.now (sym c.eq.ensures ∙ c.if-eq.true))

pub returns-then-eq-2-clause-filled : goal.returns-then-eq-2-clause-filled
returns-then-eq-2-clause-filled c = λ θ l p h.
    two_stay c.args.bank.now θ c.in-Arrow.field-0.0 c.in-Arrow.field-1.0 c.args.parts.now c.args.made.now c.in-Arrow.field-0 (type_tree c.args.bank.now c.args.id.0) c.in-len2.len_at_least c.in-len2.len_below c.in-Arrow.ensures.tree
    (p ∙ ap part_numbers (sym c.in-Arrow.ensures.node)) h (same_types _ (λ x y e. eqb-true x.0 y.0 e) c.args.parts.now c.args.made.now (sym c.eq-in-len2.ensures ∙ c.if-eq-2.true))

pub returns-else-eq-clause-filled : goal.returns-else-eq-clause-filled
returns-else-eq-clause-filled c =
    IfOk-weaker c.put_constructor.result _ _
    (λ t made θ l p h. made ∙ constructor_filled c.args.bank.now θ c.in-Con.number _ c.args.parts.now c.args.made.now (type_tree c.args.bank.now c.args.id.0) c.in-Con.ensures.tree (p ∙ ap part_numbers (sym c.in-Con.ensures.node)) h)
    c.put_constructor.ensures.tree

pub returns-else-eq-2-clause-filled : goal.returns-else-eq-2-clause-filled
returns-else-eq-2-clause-filled c =
    IfOk-weaker c.put_arrow.result _ _
    (λ t made θ l p h.
    made ∙
    two_filled c.args.bank.now θ c.in-Arrow.field-0.0 c.in-Arrow.field-1.0 c.args.parts.now c.args.made.now _ (type_tree c.args.bank.now c.args.id.0) c.in-len2.len_at_least c.in-len2.len_below c.in-Arrow.ensures.tree
    (p ∙ ap part_numbers (sym c.in-Arrow.ensures.node)) h)
    c.put_arrow.ensures.tree

pub returns-in_default-clause-filled : goal.returns-in_default-clause-filled
returns-in_default-clause-filled c = λ θ l p h.
    let two = two_made c.args.bank.now θ c.in-Arrow.field-0.0 c.in-Arrow.field-1.0 c.args.parts.now c.args.made.now (p ∙ ap part_numbers (sym c.in-Arrow.ensures.node)) h in
    absurd (omega (arith, two, c.in_default.len_below))
