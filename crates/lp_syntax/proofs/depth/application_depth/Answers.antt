use Rattle.std.proofs.Common.{◌+◌, ◌-◌, ◌^◌, min, max, refl, ap, ◌∙◌}
use Rattle.lp_syntax.proofs.Depths.{applied_depth, abstraction_applied}
use Rattle.lp_syntax.proofs.depth.application_depth.Goals as goal

pub returns-then-is_abstraction : goal.returns-then-is_abstraction
returns-then-is_abstraction c =
    let a = c.saturating_add.ensures ∙ ap (λ z. min (z + 1) (2 ^ 64 - 1)) c.depth_at-then-is_abstraction.ensures in
    let b = c.saturating_add-below.ensures ∙ ap (λ z. min (z + 1) (2 ^ 64 - 1)) c.depth_at.ensures in
    λ spot ls t u h p q r s. abstraction_applied ls t u _ _ _ (h spot ls c.args.head t p r) (h spot ls c.args.argument u q s) (c.if-is_abstraction.ensures.yes spot ls t refl r) (c.max.ensures ∙ (λ i. max (a i) (b i)))

pub returns : goal.returns
returns c =
    let b = c.saturating_add-below.ensures ∙ ap (λ z. min (z + 1) (2 ^ 64 - 1)) c.depth_at.ensures in
    λ spot ls t u h p q r s. applied_depth ls t u _ _ _ (h spot ls c.args.head t p r) (h spot ls c.args.argument u q s) (c.if-is_abstraction.ensures.no spot ls t refl r) (c.max-2.ensures ∙ (λ i. max (c.depth_at-2.ensures i) (b i)))
