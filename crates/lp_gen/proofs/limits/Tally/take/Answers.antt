use Rattle.std.proofs.Common.{arith}
use Rattle.lp_gen.proofs.LimitsLeft.{strict_less}
use Rattle.lp_gen.proofs.limits.Tally.take.Goals as goal

pub invariant_of-self : goal.invariant_of-self
invariant_of-self c = record { none = strict_less c.args.self.now.look c.args.self.now.room _ (omega arith) c.args.self.now.none }
