use Rattle.std.proofs.Common.{refl, add-one, arith, subst}
use Rattle.std.specs.Prelude.{All}
use Rattle.lp_term.proofs.Trees.{extends-trans}
use Rattle.lp_term.proofs.Knowing.{take_whole}
use Rattle.lp_pattern.proofs.Walking.{types_kept}
use Rattle.lp_plain.specs.Renewal.{new_number}
use Rattle.lp_plain.specs.Standings.{IsTypeJudged}
use Rattle.lp_plain.specs.declared.openness.Openness.TheVariants.{Closed}
use Rattle.lp_plain.proofs.OpenGoals.{all_more, all_closed, of_first}
use Rattle.lp_plain.proofs.openness.openness_of_types.Goals as goal

pub returns-then-not-is_closed-clause-judged : goal.returns-then-not-is_closed-clause-judged
returns-then-not-is_closed-clause-judged c = λ θ r.
    of_first (λ o x. IsTypeJudged o (θ (new_number c.args.types x))) c.args.variables.now c.types.variable-index _ 0 c.in_ok-openness.openness (c.is_closed.ensures.left c.if-not-is_closed.true) c.types-test.true refl (c.types.invariant.1 θ r)
    (subst (λ n. IsTypeJudged c.in_ok-openness.openness (θ n)) c.of.ensures (c.in_ok-openness.ensures.judged θ (types_kept c.args.bank.now c.types.bank c.args.bindings.now θ c.types.invariant.0 r)))

pub types-preserved : goal.types-preserved
types-preserved c = (
  extends-trans _ _ _ c.types.invariant.0 c.in_ok-openness.ensures.kept,
  λ θ r. all_more (λ x. IsTypeJudged Closed (θ (new_number c.args.types x))) c.args.variables.now c.types.variable-index _ _ 0 (add-one c.types.variable-index) c.types-test.true refl (c.types.invariant.1 θ r)
      (subst (λ n. IsTypeJudged Closed (θ n)) c.of.ensures (subst (λ o. IsTypeJudged o (θ c.of.result)) (c.is_closed.ensures.closed c.if-not-is_closed.false)
      (c.in_ok-openness.ensures.judged θ (types_kept c.args.bank.now c.types.bank c.args.bindings.now θ c.types.invariant.0 r)))),
)

pub returns-clause-judged : goal.returns-clause-judged
returns-clause-judged c = λ θ r.
    all_closed (λ o x. IsTypeJudged o (θ (new_number c.args.types x))) c.args.variables.now
    (subst (λ l. All (λ x. IsTypeJudged Closed (θ (new_number c.args.types x))) l) (take_whole c.args.variables.now c.types.variable-index (omega (arith, c.types-test.false))) (c.types.invariant.1 θ r))
