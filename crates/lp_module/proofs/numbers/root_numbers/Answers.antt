use Rattle.std.proofs.Common.{◌+◌, ◌∙◌, ap, refl, arith}
use Rattle.lp_module.specs.Program.{place_in, hidden_or}
use Rattle.lp_module.proofs.Tabling.{numbers_more}
use Rattle.lp_module.proofs.Placing.{numbers_none, numbered_end, place_at, place_fits, exported_next, exported_few}
use Rattle.lp_module.proofs.numbers.root_numbers.Goals as goal

pub loop-at-init : goal.loop-at-init
loop-at-init c = (numbers_none _ _ _ _ c.new-numbers.result.items c.new-numbers.ensures.items, omega arith, omega arith)

pub hidden_or-number-requires : goal.hidden_or-number-requires
hidden_or-number-requires c =
    let f = place_fits c.args.first c.args.count c.args.hidden.now c.in_ok-places.places.items c.loop-at.at c.index-place.result.now c.in_ok-places.ensures c.loop-at-test.true c.index-place.ensures in
    omega (arith, f, c.requires.hidden)

pub loop-at-preserved : goal.loop-at-preserved
loop-at-preserved c =
    let o = place_in c.args.hidden.now (c.args.first + c.loop-at.at) in
    let p = place_at c.args.first c.args.count c.args.hidden.now c.in_ok-places.places.items c.loop-at.at c.index-place.result.now c.in_ok-places.ensures c.loop-at-test.true c.index-place.ensures in (
      numbers_more c.args.first c.args.hidden.now c.args.from _ c.loop-at.at c.hidden_or-number.result c.loop-at.numbers.items c.push.new.self.items c.in_ok-push.ensures.items
          (c.hidden_or-number.ensures o p ∙ ap (hidden_or c.args.from o) c.loop-at.invariant.1) c.loop-at.invariant.0,
      exported_next c.args.first c.args.hidden.now c.loop-at.at c.loop-at.next c.one_if_none-next.result c.loop-at.invariant.1 (c.one_if_none-next.ensures.one o p),
      exported_few c.args.first c.args.hidden.now c.loop-at.at c.loop-at.invariant.2,
    )

pub returns : goal.returns
returns c =
    numbered_end c.args.first c.args.count c.loop-at.at c.args.hidden.now c.args.from _ (record { first = c.args.first; numbers = c.loop-at.numbers }) refl (omega (arith, c.loop-at-test.false, c.loop-at.auto.at-end)) c.loop-at.invariant.0
