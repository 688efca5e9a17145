use Rattle.std.proofs.Common.{◌∙◌, sym, length, arith}
use Rattle.lp_module.specs.Searching.{ways_in}
use Rattle.lp_module.proofs.Reaching.{circle_found, circle_not, no_circle, places_of, all_square, count_is}
use Rattle.lp_module.proofs.circles.first_circle.Goals as goal

pub first_back-requires-clause-places : goal.first_back-requires-clause-places
first_back-requires-clause-places c = places_of c.args.ways.now.items c.loop-home.home (length c.in_ok-reached.reached.items) c.index-out.result.now c.requires (omega (arith, c.loop-home-test.true, c.len-home-end.ensures, c.args.ways.now.ok)) c.index-out.ensures c.in_ok-reached.ensures.count

pub first_back-requires-clause-square : goal.first_back-requires-clause-square
first_back-requires-clause-square c = all_square (ways_in c.args.ways.now.items) c.in_ok-reached.reached.items (c.in_ok-reached.ensures.count ∙ sym (count_is c.args.ways.now.items)) c.in_ok-reached.ensures.reached

pub returns-in-Some : goal.returns-in-Some
returns-in-Some c = circle_found c.args.ways.now.items c.loop-home.home c.index-out.result.now c.in-Some.word c.first_back.result
    (omega (arith, c.loop-home-test.true, c.len-home-end.ensures, c.args.ways.now.ok)) c.index-out.ensures c.in-Some.is
    (c.first_back.ensures (ways_in c.args.ways.now.items) c.in_ok-reached.ensures.reached) c.loop-home.invariant

pub loop-home-preserved : goal.loop-home-preserved
loop-home-preserved c = circle_not c.args.ways.now.items c.loop-home.home c.index-out.result.now c.first_back.result
    (omega (arith, c.loop-home-test.true, c.len-home-end.ensures, c.args.ways.now.ok)) c.index-out.ensures c.in-None.is
    (c.first_back.ensures (ways_in c.args.ways.now.items) c.in_ok-reached.ensures.reached) c.loop-home.invariant

pub returns : goal.returns
returns c = no_circle c.args.ways.now.items c.loop-home.home (omega (arith, c.loop-home-test.false, c.len-home-end.ensures, c.args.ways.now.ok)) c.loop-home.invariant
