use Rattle.lp_pattern.proofs.InPlace.{no_types_in_place, one_more_type_in_place}
use Rattle.lp_pattern.proofs.inside.type_pairs_below.Goals as goal

pub loop-pair-init : goal.loop-pair-init
loop-pair-init c = λ b d x n l t. no_types_in_place b d c.new-made.result.items c.new-made.ensures.items

pub loop-pair-preserved : goal.loop-pair-preserved
loop-pair-preserved c = λ b d x n l t.
    let one = c.type_below-left.ensures b d x n l t in
    let other = c.type_below-right.ensures b d x n l t in
    one_more_type_in_place b d c.loop-pair.yielded c.loop-pair.made.items c.push.new.self.items c.in-Some.pair (c.type_below-left.result, c.type_below-right.result)
    c.in_ok-push.ensures.items (c.loop-pair.invariant b d x n l t) (one.0, other.0) one.1 other.1
