use Rattle.std.proofs.Common.{◌≡◌, length, arith}
use Rattle.lp_impl.proofs.Chained.{put_in_front}
use Rattle.lp_impl.proofs.assumptions.put.Goals as goal

pub returns-clause-said : goal.returns-clause-said
returns-clause-said c = λ ss h. put_in_front _ _ _ _ (omega (arith, c.len-number.ensures, c.args.entries.now.ok)) c.in_ok-push.ensures.items ss h
