use Rattle.std.proofs.Common.{arith}
use Rattle.lp_gen.proofs.LimitsLeft.{part_deep}
use Rattle.lp_gen.proofs.limits.Tally.to_part.Goals as goal

pub returns-then-number-clause-cause : goal.returns-then-number-clause-cause
returns-then-number-clause-cause c = part_deep c.args.self.now.look c.args.self.now.room c.args.number c.in-Nesting.is c.args.self.now.none (omega (arith, c.if-number.true))
