use Rattle.std.proofs.lemmas.Result.{on_ok_weaker}
use Rattle.lp_infer.proofs.Waiting.{put_twice}
use Rattle.lp_infer.proofs.reading.Reading.keep.Goals as goal

pub returns-clause-made : goal.returns-clause-made
returns-clause-made c = on_ok_weaker c.put-2.result (λ last. put_twice c.args.id.0 c.args.top.0 c.args.made.0 c.args.self.now c.put.new.self c.put-2.new.self c.in_ok-put.ensures.made last) c.put-2.ensures.made
