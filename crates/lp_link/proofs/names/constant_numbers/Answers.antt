use Rattle.std.proofs.Common.{◌∙◌, ℕ, Bool, List, length, ap, sym, arith}
use Rattle.std.specs.Prelude.{option_map}
use Rattle.std.proofs.lemmas.List.{length-map}
use Rattle.lp_code.specs.declared.object.ObjectConstant.{ObjectConstant}
use Rattle.lp_link.specs.Linked.{constant_above, constants_of}
use Rattle.lp_link.specs.inner.Entering.{open_copy}
use Rattle.lp_link.proofs.NumberedNames.{entries_drop, numbers_begin, numbers_next, numbers_done}
use Rattle.lp_link.proofs.names.constant_numbers.Goals as goal

pub loop-at-init : goal.loop-at-init
loop-at-init c = numbers_begin (constant_above (option_map (λ o. open_copy o.now) c.args.above)) 32 c.args.first
    (constants_of c.args.member.now.object.now) c.new-numbers.result.items c.new-numbers.ensures.items

pub loop-at-preserved : goal.loop-at-preserved
loop-at-preserved c =
    let k = c.index-constants-at.result in
    numbers_next (constant_above (option_map (λ o. open_copy o.now) c.args.above)) 32 c.args.first (constants_of c.args.member.now.object.now)
    c.loop-at.at c.loop-at.numbers.items c.push.new.self.items
    c.loop-at.global c.loop-at.hidden c.next.new.global c.next.new.hidden c.next.result k.name.items k.exported c.constant_above-there.result
    (entries_drop (λ (k : ObjectConstant). (k.name.items, k.exported)) c.as_slice-constants.result.now c.args.member.now.object.now.constants.items
    c.loop-at.at k c.as_slice-constants.ensures.value c.loop-at-test.true c.index-constants-at.is)
    c.in_ok-push.ensures.items (ap (constant_above (option_map (λ o. open_copy o.now) c.args.above)) (sym c.as_slice.ensures.value) ∙ sym c.constant_above-there.ensures)
    c.next.ensures.number c.next.ensures.global c.next.ensures.hidden c.loop-at.invariant

pub returns : goal.returns
returns c =
    let n = length-map {B = List ℕ × Bool} c.args.member.now.object.now.constants.items (λ (k : ObjectConstant). (k.name.items, k.exported)) in
    let l = ap length c.as_slice-constants.ensures.value in
    numbers_done (constant_above (option_map (λ o. open_copy o.now) c.args.above)) 32 c.args.first (constants_of c.args.member.now.object.now)
    c.loop-at.at c.loop-at.numbers.items c.loop-at.global c.loop-at.hidden
    (omega (arith, n, l, c.loop-at-test.false)) c.loop-at.invariant
