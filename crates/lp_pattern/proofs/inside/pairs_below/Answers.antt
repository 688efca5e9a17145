use Rattle.std.proofs.Common.{◌≡◌, ◌∙◌, refl, sym, subst as transport}
use Rattle.std.proofs.lemmas.List.{map-id}
use Rattle.std.proofs.lemmas.Iterator.{YieldsList-from_slice}
use Rattle.std.proofs.lemmas.Iterator.Consumers.{YieldsList-end, YieldsList-from_copied}
use Rattle.lp_pattern.specs.Inside.{ArePairsInPlaceOf}
use Rattle.lp_pattern.proofs.InPlace.{none_in_place, one_more_in_place}
use Rattle.lp_pattern.proofs.inside.pairs_below.Goals as goal

pub loop-pair-init : goal.loop-pair-init
loop-pair-init c = λ b d x n l t. none_in_place b d c.new-made.result.items c.new-made.ensures.items

pub loop-pair-preserved : goal.loop-pair-preserved
loop-pair-preserved c = λ b d x n l t.
    let one = c.term_below-left.ensures b d x n l t in
    let other = c.term_below-right.ensures b d x n l t in
    one_more_in_place b d c.loop-pair.yielded c.loop-pair.made.items c.push.new.self.items c.in-Some.pair (record { left = c.term_below-left.result; right = c.term_below-right.result; level = c.in-Some.pair.level })
    c.in_ok-push.ensures.items (c.loop-pair.invariant b d x n l t) (one.0, other.0) one.1 other.1 refl

pub returns : goal.returns
returns c = λ b d x n l t.
    let whole : c.loop-pair.yielded ≡ c.args.pairs.now =
    sym (map-id c.loop-pair.yielded) ∙
    (YieldsList-end (YieldsList-from_copied (YieldsList-from_slice c.args.pairs.now cc)) c.loop-pair.yielded _ c.loop-pair.yielded_by _ _ c.in-None.is c.next.ensures.steps).0 in
    transport (λ ps. ArePairsInPlaceOf b d ps c.loop-pair.made.items) whole (c.loop-pair.invariant b d x n l t)
