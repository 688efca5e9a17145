use Rattle.lp_syntax.proofs.ModuleUnique.{one_depth}
use Rattle.lp_syntax.proofs.laws.one_depth.Goals as goal

pub returns : goal.returns
returns c = one_depth
