use Rattle.std.proofs.Common.{arith}
use Rattle.lp_pattern.proofs.fill_types.TypesFilled.count.Goals as goal

pub returns-clause-few : goal.returns-clause-few
returns-clause-few c = omega (arith, c.len.ensures.len, c.len.ensures.small)
