use Rattle.std.proofs.Common.{◌∙◌, sym, subst, length, arith, ◌<◌}
use Rattle.lp_module.specs.Order.{there}
use Rattle.lp_module.specs.Searching.{ways_in}
use Rattle.lp_module.proofs.Reaching.{found_none, looked_through, all_reached, places_of, count_is}
use Rattle.lp_module.proofs.circles.reach.Goals as goal

pub found-init : goal.found-init
found-init c =
    let W = ways_in c.args.ways.now.items in
    let n = count_is c.args.ways.now.items in (
      c.in_ok-find.ensures.found W c.args.from (there c.args.from) (found_none W c.args.from c.len.result c.in_ok-marks.marks.items c.new-found.result.items c.new-found.ensures.items (omega (arith, c.len.ensures, c.args.ways.now.ok, n)) c.in_ok-marks.ensures),
      (λ k h. absurd (omega (arith, h))),
      c.in_ok-find.ensures.marked,
    )

pub find_all-requires : goal.find_all-requires
find_all-requires c =
    let f = c.found.invariant.0 in
    let n = count_is c.args.ways.now.items in
    let h : c.found.next < length c.found.found.items = omega (arith, c.found-test.true, c.len-in-found.ensures, c.found.found.ok) in
    let within : c.index.result.now < length c.args.ways.now.items = subst (λ k. k < length c.args.ways.now.items) (sym c.index.ensures) (omega (arith, n, f.within c.found.next c.index.result.now h)) in
    places_of c.args.ways.now.items c.index.result.now (length c.found.marks.items) c.index-out.result.now c.requires.within within c.index-out.ensures (f.count ∙ n)

pub found-preserved : goal.found-preserved
found-preserved c =
    looked_through c.args.ways.now.items c.args.from c.found.marks.items c.find_all.new.marks.items c.found.found.items c.find_all.new.found.items c.found.next c.index.result.now c.index-out.result.now
    (omega (arith, c.found-test.true, c.len-in-found.ensures, c.found.found.ok)) c.index.ensures c.index-out.ensures c.found.invariant c.in_ok-find_all.ensures.more c.in_ok-find_all.ensures.marked c.in_ok-find_all.ensures.found

pub returns : goal.returns
returns c =
    all_reached (ways_in c.args.ways.now.items) c.args.from c.found.marks.items c.found.found.items c.found.next (omega (arith, c.found-test.false, c.len-in-found.ensures, c.found.found.ok)) c.found.invariant.2 c.found.invariant.0 c.found.invariant.1
