use Rattle.std.proofs.Common.{refl}
use Rattle.lp_plain.proofs.arithmetic.last_value.Goals as goal

pub returns : goal.returns
returns c = (c.in-Some.last, c.pop.new.self.items, c.in-Some.ensures.items, refl)
