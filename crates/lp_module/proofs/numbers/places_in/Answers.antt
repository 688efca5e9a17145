use Rattle.std.proofs.Common.{◌-◌, length, get_or, refl, arith}
use Rattle.lp_module.proofs.Placing.{places_started, places_step, places_done}
use Rattle.lp_module.proofs.numbers.places_in.Goals as goal

pub loop-at-init : goal.loop-at-init
loop-at-init c = places_started c.args.first c.args.count c.args.list.now c.in_ok-places.places.items (length c.args.list.now - 0) (c.in_ok-places.ensures.items_if_clones_equal (λ y h. h)) (omega arith)

pub loop-at-preserved : goal.loop-at-preserved
loop-at-preserved c = places_step c.args.first c.args.count c.args.list.now (length c.args.list.now) c.loop-at.at
    (length c.args.list.now - 1 - c.loop-at.at) (get_or c.args.list.now (length c.args.list.now - 1 - c.loop-at.at) 0) c.loop-at.places.items
    c.set_place.new.places.items c.loop-at-test.true refl refl refl c.set_place.ensures.count c.set_place.ensures.set c.loop-at.invariant

pub returns : goal.returns
returns c = places_done c.args.first c.args.count c.args.list.now (length c.args.list.now) c.loop-at.at c.loop-at.places.items c.loop-at-test.false c.loop-at.invariant
