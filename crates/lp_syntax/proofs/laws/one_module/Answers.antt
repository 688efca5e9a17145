use Rattle.lp_syntax.proofs.ModuleUnique.{one_module}
use Rattle.lp_syntax.proofs.laws.one_module.Goals as goal

pub returns : goal.returns
returns c = λ ops ls ss ts a b p q. let z = one_module ops ls ss ts a b p q in (z.0, λ name i. z.1 i name)
