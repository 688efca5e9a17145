use Rattle.std.proofs.Common.{subst, inl, inr}
use Rattle.lp_pattern.proofs.Walking.{reading_kept}
use Rattle.lp_plain.specs.Renewal.{new_number}
use Rattle.lp_plain.specs.Standings.{IsTypeJudged, OfAll, OfIndex}
use Rattle.lp_plain.specs.declared.openness.Openness.{Openness}
use Rattle.lp_plain.proofs.openness.openness_of_free.Goals as goal

pub returns-then-not-is_closed-clause-judged : goal.returns-then-not-is_closed-clause-judged
returns-then-not-is_closed-clause-judged c = λ k r h nb nv vs s.
    let J : Openness → Type 0 = λ o. OfAll (OfIndex c.args.bank.now k vs) o c.args.free.now.variables.items in
    let K : Openness → Type 0 = λ o. OfAll (λ p x. IsTypeJudged p (k.types (new_number c.args.values.types x))) o c.args.free.now.types.items in
    inl (
      c.is_closed.ensures.left c.if-not-is_closed.true,
      subst (λ l. OfAll (OfIndex c.args.bank.now k vs) c.in_ok-openness.openness l) c.as_slice-variables.ensures.value (c.in_ok-openness.ensures.judged k r h nb nv vs s),
    )

pub returns-clause-judged : goal.returns-clause-judged
returns-clause-judged c = λ k r h nb nv vs s.
    let J : Openness → Type 0 = λ o. OfAll (OfIndex c.args.bank.now k vs) o c.args.free.now.variables.items in
    let K : Openness → Type 0 = λ o. OfAll (λ p x. IsTypeJudged p (k.types (new_number c.args.values.types x))) o c.args.free.now.types.items in
    inr (
      subst J (c.is_closed.ensures.closed c.if-not-is_closed.false) (subst (λ l. OfAll (OfIndex c.args.bank.now k vs) c.in_ok-openness.openness l) c.as_slice-variables.ensures.value (c.in_ok-openness.ensures.judged k r h nb nv vs s)),
      subst (λ l. OfAll (λ p x. IsTypeJudged p (k.types (new_number c.args.values.types x))) c.in_ok-other.other l) c.as_slice-types.ensures.value
          (c.in_ok-other.ensures.judged k.types (reading_kept c.args.bank.now c.openness_of_values.new.bank c.args.around.bindings.now k c.in_ok-openness.ensures.kept r).types),
    )
