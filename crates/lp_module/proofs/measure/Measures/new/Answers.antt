use Rattle.std.proofs.Common.{arith, length, ap}
use Rattle.lp_module.proofs.measure.Measures.new.Goals as goal

pub returns : goal.returns
returns c = λ b. record {
  within = let l = ap length c.new.ensures.items in omega (arith, l);
  each = λ i h. let l = ap length c.new.ensures.items in absurd (omega (arith, l, h));
}
