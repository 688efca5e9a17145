use Rattle.std.proofs.Common.{arith}
use Rattle.lp_gen.proofs.LimitsLeft.{past_over, past_within}
use Rattle.lp_gen.proofs.emitter.within.Goals as goal

pub returns-clause-room : goal.returns-clause-room
returns-clause-room c = past_within c.args.most c.args.count (omega (arith, c.if-count-most.false))

pub returns-then-count-most-clause-cause : goal.returns-then-count-most-clause-cause
returns-then-count-most-clause-cause c = let p = past_over c.args.most c.args.count (omega (arith, c.if-count-most.true)) in omega (arith, p)
