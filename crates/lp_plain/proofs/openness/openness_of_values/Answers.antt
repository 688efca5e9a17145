use Rattle.std.proofs.Common.{refl, add-one, get_or, arith, subst, sym, ◌∙◌}
use Rattle.std.specs.Prelude.{All}
use Rattle.lp_term.proofs.Trees.{extends-trans}
use Rattle.lp_term.proofs.Knowing.{take_whole}
use Rattle.lp_plain.specs.Standings.{OfIndex}
use Rattle.lp_plain.specs.declared.openness.Openness.TheVariants.{Closed}
use Rattle.lp_plain.proofs.OpenGoals.{all_more, all_closed, of_first, index_judged}
use Rattle.lp_plain.proofs.openness.openness_of_values.Goals as goal

pub returns-then-not-is_closed-clause-judged : goal.returns-then-not-is_closed-clause-judged
returns-then-not-is_closed-clause-judged c = λ k r h nb nv vs s.
    of_first (OfIndex c.args.bank.now k vs) c.args.variables.now c.values.variable-index _ 0 c.in_ok-openness.openness (c.is_closed.ensures.left c.if-not-is_closed.true) c.values-test.true refl (c.values.invariant.1 k r h nb nv vs s)
    (index_judged c.args.bank.now c.values.bank c.args.around.bindings.now k vs _ c.in-Some.value c.in_ok-openness.openness c.values.invariant.0 r h (sym c.in-Some.is ∙ c.value.ensures nb nv vs s) c.in_ok-openness.ensures.judged)

pub values-preserved : goal.values-preserved
values-preserved c = (
  extends-trans _ _ _ c.values.invariant.0 c.in_ok-openness.ensures.kept,
  λ k r h nb nv vs s. all_more (OfIndex c.args.bank.now k vs Closed) c.args.variables.now c.values.variable-index _ _ 0 (add-one c.values.variable-index) c.values-test.true refl (c.values.invariant.1 k r h nb nv vs s)
      (subst (λ o. OfIndex c.args.bank.now k vs o (get_or c.args.variables.now c.values.variable-index 0)) (c.is_closed.ensures.closed c.if-not-is_closed.false)
      (index_judged c.args.bank.now c.values.bank c.args.around.bindings.now k vs _ c.in-Some.value c.in_ok-openness.openness c.values.invariant.0 r h (sym c.in-Some.is ∙ c.value.ensures nb nv vs s) c.in_ok-openness.ensures.judged)),
)

pub returns-clause-judged : goal.returns-clause-judged
returns-clause-judged c = λ k r h nb nv vs s.
    all_closed (OfIndex c.args.bank.now k vs) c.args.variables.now
    (subst (λ l. All (OfIndex c.args.bank.now k vs Closed) l) (take_whole c.args.variables.now c.values.variable-index (omega (arith, c.values-test.false))) (c.values.invariant.1 k r h nb nv vs s))
