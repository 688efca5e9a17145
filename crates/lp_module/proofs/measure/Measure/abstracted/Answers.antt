use Rattle.std.proofs.Common.{refl, arith}
use Rattle.lp_module.proofs.measure.Measure.abstracted.Goals as goal

pub returns : goal.returns
returns c = λ t m. record { depth = omega (arith, c.saturating_add-depth.ensures, m.depth); arguments = refl; widest = m.widest; connective = m.connective }
