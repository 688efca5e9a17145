use Rattle.std.proofs.Common.{refl, subst}
use Rattle.std.specs.Prelude.{IfSome, ℕ, ◌<◌}
use Rattle.lp_link.specs.Differences.{IsOtherConstant}
use Rattle.lp_link.proofs.differ.first_that_differs.Goals as goal

pub returns-in-Some-2-clause-other : goal.returns-in-Some-2-clause-other
returns-in-Some-2-clause-other c =
    let below = c.args.below.now.object.now in
    let above = c.args.above.now.object.now in (
      c.in-Some-2.place,
      (
        c.number_at-in-Some-2.ensures,
        (
          c.in_default.ensures.none refl,
          (
            subst (λ p. IfSome p (IsOtherConstant below above)) c.in-Some-2.is c.in_ok-place.ensures.other,
            subst (λ p. IfSome p (λ i. (j : ℕ) → j < i → IsOtherConstant below above j → ⊥)) c.in-Some-2.is c.in_ok-place.ensures.first,
          ),
        ),
      ),
    )

pub returns-in-None-clause-same : goal.returns-in-None-clause-same
returns-in-None-clause-same c = λ e. record {
  kinds = c.in_default.ensures.none refl;
  constants = c.in_ok-place.ensures.none c.in-None.is;
}
