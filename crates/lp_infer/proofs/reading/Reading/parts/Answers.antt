use Rattle.std.proofs.Common.{subst, map}
use Rattle.std.proofs.lemmas.List.{take_all}
use Rattle.lp_infer.specs.ReadingOff.{AreRead}
use Rattle.lp_infer.proofs.Memos.{none_read, more_read, list_pushed}
use Rattle.lp_infer.proofs.reading.Reading.parts.Goals as goal

pub loop-id-init : goal.loop-id-init
loop-id-init c = λ A b M. none_read b c.args.self.now.numbers.keys c.new-parts.result.items c.new-parts.ensures.items

pub loop-id-preserved : goal.loop-id-preserved
loop-id-preserved c = λ A b M.
    more_read b c.args.self.now.numbers.keys _ _ _ _ _ c.part.result (list_pushed A c.args.ids.now c.loop-id.id-index _ c.loop-id-test.true) c.in_ok-push.ensures.items (c.loop-id.invariant A b M) (c.part.ensures A b M)

pub part-requires : goal.part-requires
part-requires c = c.requires c.loop-id.id-index _ c.loop-id-test.true

pub returns : goal.returns
returns c = λ A b M. subst (λ l. AreRead b c.args.self.now.numbers.keys (map A (map (λ t. t.0) l)) c.loop-id.parts.items) (take_all c.loop-id.id-index c.args.ids.now c.loop-id-test.false) (c.loop-id.invariant A b M)
