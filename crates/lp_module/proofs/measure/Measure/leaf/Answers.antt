use Rattle.std.proofs.Common.{refl}
use Rattle.lp_module.proofs.measure.Measure.leaf.Goals as goal

pub returns-clause-index : goal.returns-clause-index
returns-clause-index c = λ i e. record { depth = refl; arguments = refl; widest = refl; connective = e }

pub returns-clause-atom : goal.returns-clause-atom
returns-clause-atom c = λ a e. record { depth = refl; arguments = refl; widest = refl; connective = e }
