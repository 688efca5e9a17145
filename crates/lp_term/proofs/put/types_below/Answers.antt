use Rattle.std.proofs.Common.{add-one, subst as transport}
use Rattle.lp_term.specs.Within.{AreTypesInPlaceOf}
use Rattle.lp_term.proofs.Knowing.{take_whole}
use Rattle.lp_term.proofs.Within.{none_types_in_place, next_types_in_place}
use Rattle.lp_term.proofs.put.types_below.Goals as goal

pub loop-id-init : goal.loop-id-init
loop-id-init c = λ b e x n l t. none_types_in_place b e c.new-made.result.items c.new-made.ensures.items

pub loop-id-preserved : goal.loop-id-preserved
loop-id-preserved c = λ b e x n l t.
    let k = c.type_below.ensures b e x n l t in
    next_types_in_place b e c.args.ids.now c.loop-id.made.items c.push.new.self.items c.loop-id.id-index _ c.type_below.result (add-one c.loop-id.id-index) c.loop-id-test.true c.in_ok-push.ensures.items
    (c.loop-id.invariant b e x n l t) k.0 k.1

pub returns : goal.returns
returns c = λ b e x n l t.
    transport (λ ys. AreTypesInPlaceOf b e ys c.loop-id.made.items) (take_whole c.args.ids.now c.loop-id.id-index c.loop-id-test.false) (c.loop-id.invariant b e x n l t)
