use Rattle.std.proofs.Common.{◌≡◌, ◌+◌, ◌∷◌, ◌∙◌, Some, drop, refl, ap, subst, arith}
use Rattle.std.specs.Prelude.{cond}
use Rattle.std.specs.Ordering.{nat_cmp}
use Rattle.std.specs.BTreeMap.{get, is_at}
use Rattle.lp_lemmas.proofs.Lists.{drop_read}
use Rattle.lp_verify.specs.inner.Sides.{PlacesSoFar}
use Rattle.lp_verify.proofs.Faults.{none_left}
use Rattle.lp_verify.proofs.Places.{none_noted, one_noted, all_noted}
use Rattle.lp_verify.proofs.blocks.Places.of.Goals as goal

pub loop-instr-init : goal.loop-instr-init
loop-instr-init c = λ short. none_noted c.args.code.now c.new-jumps.result c.new-jumps.ensures.empty

pub loop-instr-preserved : goal.loop-instr-preserved
loop-instr-preserved c =
    let code = c.args.code.now in
    let n = c.loop-instr.instr-index in
    let i = c.instr-item.result in
    let p = c.loop-instr.place in
    let m = c.loop-instr.jumps in
    let at : drop n code ≡ i ∷ drop (n + 1) code = drop_read code n i c.loop-instr-test.true c.instr-item.is in
    λ short.
    one_noted code i (drop (n + 1) code) p c.saturating_add-place.result m c.insert.new.self short (subst (λ l. PlacesSoFar code l p m) at (c.loop-instr.invariant short))
    (λ k. c.in_ok-insert.ensures.updates.0 k ∙ ap (λ b. cond (is_at (nat_cmp p) k) (Some b) (get nat_cmp m k)) c.is_jump.ensures)
    (λ h. let f = c.from.ensures ∙ c.length.ensures in let s = c.saturating_add-place.ensures in omega (arith, h, f, s))

pub returns : goal.returns
returns c =
    let code = c.args.code.now in
    let n = c.loop-instr.instr-index in
    λ short turns. all_noted code (drop n code) c.loop-instr.place c.loop-instr.jumps (none_left code code n refl (omega (arith, c.loop-instr-test.false))) (c.loop-instr.invariant short)
