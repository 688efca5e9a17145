use Rattle.std.proofs.Common.{◌∙◌, add-one, take, get_or}
use Rattle.lp_term.specs.Absent.{places}
use Rattle.lp_term.proofs.Absences.{pushed, places_next}
use Rattle.lp_term.proofs.absent.push_all.Goals as goal

pub loop-id-preserved : goal.loop-id-preserved
loop-id-preserved c =
    pushed c.args.left.now.items (places c.args.depth (take c.loop-id.id-index c.args.ids.now)) _ c.push.new.self.items (get_or c.args.ids.now c.loop-id.id-index (record { 0 = 0 })) c.args.depth c.in_ok-push.ensures.items c.loop-id.invariant ∙
    places_next c.args.left.now.items c.args.depth c.args.ids.now c.loop-id.id-index _ (record { 0 = 0 }) (add-one c.loop-id.id-index) c.loop-id-test.true
