use Rattle.std.proofs.Common.{◌∙◌, sym, ap, arith, map}
use Rattle.lp_places.specs.Places.{first_place, places_in}
use Rattle.lp_places.proofs.Numbers.{place_more, place_none}
use Rattle.lp_places.proofs.places.Places.all.Goals as goal

pub loop-at-preserved : goal.loop-at-preserved
loop-at-preserved c = λ table has.
    place_more table c.args.names.now c.loop-at.at c.index-names-at.result c.in-Some.place c.loop-at.places.items c.push.new.self.items (places_in table (map (λ u. u.items) c.args.names.now))
    (omega (arith, c.loop-at-test.true)) c.index-names-at.is
    (sym c.in-Some.is ∙ c.of.ensures ∙ has c.as_slice.result.now ∙ ap (λ n. first_place n table) c.as_slice.ensures.value) c.in_ok-push-in-Some.ensures.items (c.loop-at.invariant table has)

pub loop-at-preserved-in-None : goal.loop-at-preserved-in-None
loop-at-preserved-in-None c = λ table has.
    place_none table c.args.names.now c.loop-at.at c.index-names-at.result c.loop-at.places.items (places_in table (map (λ u. u.items) c.args.names.now)) (omega (arith, c.loop-at-test.true)) c.index-names-at.is
    (sym c.in-None.is ∙ c.of.ensures ∙ has c.as_slice.result.now ∙ ap (λ n. first_place n table) c.as_slice.ensures.value) (c.loop-at.invariant table has)
