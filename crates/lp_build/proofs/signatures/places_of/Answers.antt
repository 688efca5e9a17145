use Rattle.std.proofs.Common.{arith}
use Rattle.std.specs.Prelude.{nat_eq}
use Rattle.indexmap.specs.IndexMap.{get}
use Rattle.lp_build.proofs.Growing.{place_more}
use Rattle.lp_build.proofs.signatures.places_of.Goals as goal

pub loop-place-preserved : goal.loop-place-preserved
loop-place-preserved c =
    place_more c.args.numbers.now.items c.index-number.result.now c.loop-place.place (get nat_eq c.put_place.new.places)
    (get nat_eq c.loop-place.places) (omega (arith, c.loop-place-test.true, c.len-place-end.ensures, c.args.numbers.now.ok))
    c.index-number.ensures c.in_ok-put_place.ensures c.loop-place.invariant
