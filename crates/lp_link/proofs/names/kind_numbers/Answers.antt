use Rattle.std.proofs.Common.{◌∙◌, ℕ, Bool, List, length, ap, sym, arith}
use Rattle.std.specs.Prelude.{option_map}
use Rattle.std.proofs.lemmas.List.{length-map}
use Rattle.lp_code.specs.declared.object.ObjectKind.{ObjectKind}
use Rattle.lp_link.specs.Linked.{kind_above, kinds_of}
use Rattle.lp_link.specs.inner.Entering.{open_copy}
use Rattle.lp_link.proofs.NumberedNames.{entries_drop, numbers_begin, numbers_next, numbers_done}
use Rattle.lp_link.proofs.names.kind_numbers.Goals as goal

pub loop-at-init : goal.loop-at-init
loop-at-init c = numbers_begin (kind_above (option_map (λ o. open_copy o.now) c.args.above)) 8 c.args.first (kinds_of c.args.member.now.object.now)
    c.new-numbers.result.items c.new-numbers.ensures.items

pub loop-at-preserved : goal.loop-at-preserved
loop-at-preserved c =
    let k = c.index-kinds-at.result in
    numbers_next (kind_above (option_map (λ o. open_copy o.now) c.args.above)) 8 c.args.first (kinds_of c.args.member.now.object.now) c.loop-at.at c.loop-at.numbers.items c.push.new.self.items
    c.loop-at.global c.loop-at.hidden c.next.new.global c.next.new.hidden c.next.result k.name.items k.exported c.kind_above-there.result
    (entries_drop (λ (k : ObjectKind). (k.name.items, k.exported)) c.as_slice-kinds.result.now c.args.member.now.object.now.kinds.items c.loop-at.at k
    c.as_slice-kinds.ensures.value c.loop-at-test.true c.index-kinds-at.is)
    c.in_ok-push.ensures.items (ap (kind_above (option_map (λ o. open_copy o.now) c.args.above)) (sym c.as_slice.ensures.value) ∙ sym c.kind_above-there.ensures)
    c.next.ensures.number c.next.ensures.global c.next.ensures.hidden c.loop-at.invariant

pub returns : goal.returns
returns c =
    let n = length-map {B = List ℕ × Bool} c.args.member.now.object.now.kinds.items (λ (k : ObjectKind). (k.name.items, k.exported)) in
    let l = ap length c.as_slice-kinds.ensures.value in
    numbers_done (kind_above (option_map (λ o. open_copy o.now) c.args.above)) 8 c.args.first (kinds_of c.args.member.now.object.now) c.loop-at.at
    c.loop-at.numbers.items c.loop-at.global c.loop-at.hidden
    (omega (arith, n, l, c.loop-at-test.false)) c.loop-at.invariant
