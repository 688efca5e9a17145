use Rattle.std.proofs.Common.{◌+◌, length, ap, refl, arith}
use Rattle.lp_module.specs.Program.{place_in}
use Rattle.lp_module.proofs.Tabling.{numbers_more}
use Rattle.lp_module.proofs.Placing.{numbers_none, numbered_end, places_of, place_at, place_fits}
use Rattle.lp_module.proofs.numbers.kinds_below.Goals as goal

pub loop-at-init : goal.loop-at-init
loop-at-init c = numbers_none _ _ _ _ c.new-numbers.result.items c.new-numbers.ensures.items

pub kind_or-requires-clause-place : goal.kind_or-requires-clause-place
kind_or-requires-clause-place c =
    let f = place_fits 8 (length c.args.member.now.signature.kinds.items) c.args.member.now.hidden_kinds.items c.in_ok-places.places.items c.loop-at.at c.index.result.now
    (places_of 8 (length c.args.member.now.signature.kinds.items) _ c.args.member.now.hidden_kinds.items _ c.in_ok-places.places.items (ap length c.kinds-count.ensures) c.as_slice.ensures.value c.in_ok-places.ensures)
    (let l = ap length c.kinds-count.ensures in omega (arith, l, c.loop-at-test.true)) c.index.ensures in
    omega (arith, f, c.requires)

pub loop-at-preserved : goal.loop-at-preserved
loop-at-preserved c =
    numbers_more 8 c.args.member.now.hidden_kinds.items c.args.from _ c.loop-at.at c.in_ok-number.number c.loop-at.numbers.items c.push.new.self.items c.in_ok-push.ensures.items
    (c.in_ok-number.ensures (place_in c.args.member.now.hidden_kinds.items (8 + c.loop-at.at))
    (place_at 8 (length c.args.member.now.signature.kinds.items) c.args.member.now.hidden_kinds.items c.in_ok-places.places.items c.loop-at.at c.index.result.now
    (places_of 8 (length c.args.member.now.signature.kinds.items) _ c.args.member.now.hidden_kinds.items _ c.in_ok-places.places.items (ap length c.kinds-count.ensures) c.as_slice.ensures.value c.in_ok-places.ensures)
    (let l = ap length c.kinds-count.ensures in omega (arith, l, c.loop-at-test.true)) c.index.ensures))
    c.loop-at.invariant

pub returns : goal.returns
returns c =
    let l = ap length c.kinds-count.ensures in
    numbered_end 8 (length c.args.member.now.signature.kinds.items) c.loop-at.at c.args.member.now.hidden_kinds.items c.args.from _ (record { first = 8; numbers = c.loop-at.numbers }) refl (omega (arith, l, c.loop-at-test.false, c.loop-at.auto.at-end)) c.loop-at.invariant
