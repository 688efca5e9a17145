use Rattle.std.proofs.Common.{◌≡◌, ◌∙◌, ◌<◌, true, false, length, reverse, sym, subst, refl}
use Rattle.lp_verify.specs.inner.Sides.{sides_in, innermost_side, ends_there}
use Rattle.lp_verify.specs.inner.Stack.{type_heights, term_heights}
use Rattle.lp_verify.proofs.KeptBlocks.{settles_on, settles_here, fewer_around}
use Rattle.lp_verify.proofs.KeptRegisters.{settled_on, settled_here}
use Rattle.lp_verify.proofs.effect.settle.Goals as goal

pub loop-blocks-init : goal.loop-blocks-init
loop-blocks-init c = (refl, λ h. h, λ ks new h. h, λ ks new h. h)

pub loop-blocks-preserved : goal.loop-blocks-preserved
loop-blocks-preserved c =
    let p = c.args.place in
    let old = c.loop-blocks.blocks.frames.items in
    let new = c.close.new.blocks.frames.items in
    let inv = c.loop-blocks.invariant in
    let ended : ends_there p (innermost_side (sides_in old)) ≡ true = sym c.ends_right.ensures ∙ c.loop-blocks-test.true in (
      settles_on p c.args.blocks.now.frames.items old new inv.0 ended c.close.ensures.sides,
      λ h. c.close.ensures.ends (inv.1 h),
      λ ks end h. inv.2 ks end (settled_on p (sides_in old) (sides_in new) (type_heights (reverse old)) (type_heights (reverse new)) ks c.loop-blocks.types c.close.new.types end ended c.close.ensures.sides c.close.ensures.types h),
      λ ks end h. inv.3 ks end (settled_on p (sides_in old) (sides_in new) (term_heights (reverse old)) (term_heights (reverse new)) ks c.loop-blocks.terms c.close.new.terms end ended c.close.ensures.sides c.close.ensures.terms h),
    )

pub loop-blocks-smaller : goal.loop-blocks-smaller
loop-blocks-smaller c =
    let old = c.loop-blocks.blocks.frames.items in
    let ended : ends_there c.args.place (innermost_side (sides_in old)) ≡ true = sym c.ends_right.ensures ∙ c.loop-blocks-test.true in
    subst (λ l. length l < length (sides_in old)) (sym c.close.ensures.sides) (fewer_around c.args.place (sides_in old) ended)

pub returns : goal.returns
returns c =
    let p = c.args.place in
    let old = c.loop-blocks.blocks.frames.items in
    let inv = c.loop-blocks.invariant in
    let open_still : ends_there p (innermost_side (sides_in old)) ≡ false = sym c.ends_right.ensures ∙ c.loop-blocks-test.false in record {
      sides = settles_here p c.args.blocks.now.frames.items old inv.0 open_still;
      ends = inv.1;
      types = inv.2 (type_heights (reverse old)) c.loop-blocks.types (settled_here p (sides_in old) (type_heights (reverse old)) c.loop-blocks.types open_still);
      terms = inv.3 (term_heights (reverse old)) c.loop-blocks.terms (settled_here p (sides_in old) (term_heights (reverse old)) c.loop-blocks.terms open_still);
    }
